-- Each way back is a law, and so is the place of a refusal.
use Rattle.wasm_code.proofs.BodyAnswers.{place_given, value_given, fault_given}
use Rattle.std.proofs.Common.{arith}
use Rattle.wasm_ops.proofs.ByteLaws.{all_bytes}
use Rattle.wasm_code.proofs.FormedBodies.{body_given}
use Rattle.wasm_code.proofs.bodies.read_body.Goals as goal

pub returns-clause-formed : goal.returns-clause-formed
returns-clause-formed c =
    body_given c.args.bytes.now c.read_whole.result (all_bytes c.args.bytes.now (λ i. let fits = c.type_inv.bytes i in omega arith)) c.requires.size c.read_whole.ensures.found

pub returns-clause-placed : goal.returns-clause-placed
returns-clause-placed c = place_given _ _ c.read_whole.ensures.refused

pub returns-clause-only : goal.returns-clause-only
returns-clause-only c = value_given _ _ c.read_whole.ensures.found c.read_whole.ensures.refused

pub returns-clause-only_refused : goal.returns-clause-only_refused
returns-clause-only_refused c = fault_given _ _ c.read_whole.ensures.found c.read_whole.ensures.refused
