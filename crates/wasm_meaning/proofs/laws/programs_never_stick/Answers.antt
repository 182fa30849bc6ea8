use Rattle.wasm_meaning.proofs.SafePrograms.{never_stuck, verdict_is}
use Rattle.wasm_meaning.proofs.laws.programs_never_stick.Goals as goal

pub returns-clause-free : goal.returns-clause-free
returns-clause-free c = never_stuck

pub returns-clause-verdict : goal.returns-clause-verdict
returns-clause-verdict c = verdict_is
