-- Each body has a type.
use Rattle.std.proofs.Common.{◌≡◌, None, ap, sym, ◌∙◌}
use Rattle.std.specs.Prelude.{option_copied}
use Rattle.wasm_meaning.specs.ValiditySpaces.{body_type}
use Rattle.wasm_instance.proofs.Functions.{body_has_type}
use Rattle.wasm_instance.proofs.tables.shape_at.Goals as goal

pub unreachable-requires : goal.unreachable-requires
unreachable-requires c =
    let type = body_has_type c.args.valid.now c.requires.valid c.args.number c.args.body.now c.requires.there in
    let none : body_type c.args.valid.now c.args.number ≡ None = sym c.body_type.ensures ∙ ap option_copied c.in-None.is in
    let bad : ⊥ = cc (none, type.is) in
    absurd bad
