-- The vessel has the whole program before it.
use Rattle.std.proofs.Common.{[]}
use Rattle.wasm_meaning.specs.Programs.{first}
use Rattle.wasm_states.proofs.Fresh.{begins}
use Rattle.wasm_instance.proofs.fresh_states.fresh.Goals as goal

pub returns-clause-begins : goal.returns-clause-begins
returns-clause-begins c =
    begins c.args.program.now c.args.vessel.now.pages c.lay_fresh.new.vessel c.lay_fresh.ensures.program c.requires.room c.lay_fresh.ensures.view

pub returns-clause-state : goal.returns-clause-state
returns-clause-state c =
    let all = begins c.args.program.now c.args.vessel.now.pages c.lay_fresh.new.vessel c.lay_fresh.ensures.program c.requires.room c.lay_fresh.ensures.view in
    record { pending = first c.args.program.now []; holds = all.holds [] }
