-- What a call of a shelf gave, by what it answered and left, and which calls fail.
use Rattle.std.proofs.Common.{◌≡◌, ◌==◌, ℕ, Bool, true, false, cond, List, [], Option, None, Some, Result, Ok, Err, Vec, refl, sym, ap, ◌∙◌}
use Rattle.std.specs.List.{list_any}
use Rattle.std.specs.declared.alloc.Global.{Global}
use Rattle.outside.specs.Library.{CameTo, Fails, Tells}
use Rattle.outside.specs.Shelf.{Answers, Contents, ShelfGave, after_call, answer, answer_of_file, fails, files_of, shelf_state}
use Rattle.outside.specs.declared.libraries.Fetch.{Fetch}
use Rattle.outside.specs.declared.libraries.Fetch.TheVariants.{Failed, Missing, NoMemory}

-- a call that answered what is due, and left what is due, gave it
pub gave_due : (old new : Contents) (name : List ℕ) (most : ℕ) (result : Result (Vec ℕ Global) Fetch)
    → CameTo result (Tells (shelf_state old) (shelf_state new) name most) → Answers result (answer old name most) → new ≡ after_call old
    → CameTo result (ShelfGave old new name most)
gave_due old new name most (Ok bytes) tells due after = record { tells = tells; is_due = due; after = after }
gave_due old new name most (Err Missing) tells due after = record { tells = tells; is_due = due; after = after }
gave_due old new name most (Err Failed) tells due after = record { tells = tells; is_due = due; after = after }
gave_due old new name most (Err NoMemory) tells due after = tt

not_failed : (file : Option (List ℕ)) (most : ℕ) → answer_of_file file most ≡ Err Failed → ⊥
not_failed None most is = cc
not_failed (Some bytes) most is = cc

-- a call fails only where it was told to
pub fails_as_told : (old new : Contents) (name : List ℕ) (most : ℕ) → ShelfGave old new name most Fails → fails old ≡ true
fails_as_told old new name most gave = at (fails old) refl
  where
    at : (b : Bool) → fails old ≡ b → fails old ≡ true
    at true is = is
    at false is =
        absurd (not_failed (files_of old.files name) most
        (ap (λ b. cond b (Err Failed) (answer_of_file (files_of old.files name) most)) (sym is) ∙ gave.is_due))

-- a shelf none of whose calls fail
pub never_fails : (s : Contents) → s.failing ≡ [] → fails s ≡ false
never_fails s none = ap (λ (xs : List ℕ). list_any (λ number. number == s.calls) xs) none
