-- What the program of a module, or its refusal, says of linking.
use Rattle.std.proofs.Common.{◌≡◌, ℕ, Option, Some, None, Ok, Err, refl}
use Rattle.wasm_ops.specs.declared.modules.Module.{Module}
use Rattle.wasm_meaning.specs.declared.links.Unlinked.{Unlinked}
use Rattle.wasm_meaning.specs.Linking.{link_refusal}
use Rattle.wasm_meaning.specs.Programs.{Program, link, linked_or}

pub linked_is
    : (m : Module) (pages : ℕ) (program : Program) → link m pages ≡ Ok program
    → (link_refusal m pages ≡ None) × (program ≡ record { linked = m; pages = pages })
linked_is m pages program e = by (link_refusal m pages) refl e
  where
    by
        : (o : Option Unlinked) → link_refusal m pages ≡ o → linked_or (record { linked = m; pages = pages }) o ≡ Ok program
        → (link_refusal m pages ≡ None) × (program ≡ record { linked = m; pages = pages })
    by None is same = (is, cc)
    by (Some why) is same = let bad : ⊥ = cc in absurd bad

pub unlinked_is : (m : Module) (pages : ℕ) (why : Unlinked) → link m pages ≡ Err why → link_refusal m pages ≡ Some why
unlinked_is m pages why e = by (link_refusal m pages) refl e
  where
    by : (o : Option Unlinked) → link_refusal m pages ≡ o → linked_or (record { linked = m; pages = pages }) o ≡ Err why → link_refusal m pages ≡ Some why
    by None is same = let bad : ⊥ = cc in absurd bad
    by (Some found) is same = let equal : found ≡ why = cc in cc
