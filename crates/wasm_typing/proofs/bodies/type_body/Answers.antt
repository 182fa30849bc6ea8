-- The walk over the flat operators is the typing of the body.
use Rattle.std.proofs.Common.{◌≡◌, ◌++◌}
use Rattle.wasm_typing.proofs.StepLaws.{body_is}
use Rattle.wasm_typing.proofs.bodies.type_body.Goals as goal

pub returns : goal.returns
returns c =
    let locals : c.as_slice-3.result.now ≡ c.args.function.now.params ++ c.args.body.now.locals = cc (c.in_ok-locals.ensures, c.as_slice-3.ensures.value) in
    rw (body_is c.args.whole.now c.args.function.now c.args.body.now c.as_slice-3.result.now c.as_slice-4.result.now c.as_slice-5.result.now c.requires.formed locals c.as_slice-4.ensures c.as_slice-5.ensures) at c.walk.ensures
