-- One more import of a list.
use Rattle.std.proofs.Common.{◌≡◌, ℕ, ◌+◌, ◌<◌, List, [], ◌∷◌, ◌++◌, length, get_or, take, Option, Some, None, refl, ap, ◌∙◌}
use Rattle.std.specs.Prelude.{option_to_list}
use Rattle.std.specs.List.{cons_option}
use Rattle.std.proofs.lemmas.List.{take_more}
use Rattle.std.proofs.lemmas.List.Elements.{filter_map-append}
use Rattle.wasm_ops.specs.declared.modules.Import.{Import}
use Rattle.wasm_ops.specs.declared.modules.ImportItem.{ImportItem}
use Rattle.wasm_meaning.specs.ValiditySpaces.{imported}

laid : {A : Type 0} (found : Option A) → cons_option found [] ≡ option_to_list found
laid None = refl
laid (Some x) = refl

pub imported_more
    : {A : Type 0} (kind : ImportItem → Option A) (imports : List Import) (i : ℕ) (d : Import) → i < length imports
    → imported kind (take (i + 1) imports) ≡ imported kind (take i imports) ++ option_to_list (kind (get_or imports i d).item)
imported_more {A} kind imports i d lt =
    ap (λ (xs : List Import). imported kind xs) (take_more imports i d lt)
    ∙ (filter_map-append (λ (x : Import). kind x.item) (take i imports) (get_or imports i d ∷ [])
    ∙ ap (λ (last : List A). imported kind (take i imports) ++ last) (laid (kind (get_or imports i d).item)))

-- what is found in the next import goes behind what was found in those before it
pub next_imported
    : {A : Type 0} (kind : ImportItem → Option A) (imports : List Import) (i : ℕ) (x : Import) (found : Option A) (before after : List A)
    → i < length imports → x ≡ get_or imports i x → found ≡ kind x.item → before ≡ imported kind (take i imports)
    → after ≡ before ++ option_to_list found → after ≡ imported kind (take (i + 1) imports)
next_imported kind imports i x found before after lt at is so_far behind =
    let more = imported_more kind imports i x lt in cc
