-- What `read_body` found or refused is what the body's syntax has there.
use Rattle.std.proofs.Common.{refl}
use Rattle.wasm_reader.specs.Bodies.{end_place, from_place}
use Rattle.wasm_reader.proofs.BodyLaws.{body_decided}
use Rattle.wasm_reader.proofs.bodies.body.Goals as goal

pub returns-in-Ok : goal.returns-in-Ok
returns-in-Ok c =
    let here = from_place c.args.at c.args.bytes.now in
    (body_decided.decides here).only c.in-Ok.body (end_place here) (c.in-Ok.ensures.found, refl)

pub returns-in-Err-Bytes : goal.returns-in-Err-Bytes
returns-in-Err-Bytes c =
    let here = from_place c.args.at c.args.bytes.now in
    let refused = rw c.in-Err-Bytes.field-0-is at c.in-Err-Bytes.ensures.refused in
    (body_decided.decides here).only_refused _ (c.in-Err-Bytes.fault, refused, refl)
