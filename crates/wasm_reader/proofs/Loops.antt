-- One turn of a loop over things that stand one behind another.
use Rattle.std.proofs.Common.{◌≡◌, ℕ, suc, zero, List, [], ◌∷◌, ◌++◌, Ok, Err, refl, ap, sym, ◌∙◌}
use Rattle.wasm_ops.specs.declared.faults.Fault.{Fault}
use Rattle.wasm_ops.specs.Input.{Input}
use Rattle.wasm_code.specs.Reading.{Read, and_then}
use Rattle.wasm_code.specs.declared.faults.CodeFault.{CodeFault}
use Rattle.wasm_code.specs.declared.faults.CodeFault.TheVariants.{Bytes, NoMemory}
use Rattle.wasm_code.specs.Faults.{IsFaultOf}
use Rattle.wasm_reader.specs.Syntax.{Syntax, items_from, kept, vector_of}

-- the same behind whatever comes first
and_then_same
    : {A B : Type 0} (first : Read A) (next other : A → Input → Read B) → ((x : A) (there : Input) → next x there ≡ other x there)
    → and_then first next ≡ and_then first other
and_then_same (Ok read) next other same = same read.0 read.1
and_then_same (Err fault) next other same = refl

-- a thing, and those behind it
pub item_goes
    : {A : Type 0} (n m : ℕ) (item : List A → Syntax A) (so_far : List A) (before : Input) (x : A) (there : Input) → n ≡ suc m
    → (item so_far).read before ≡ Ok (x, there) → items_from m item (so_far ++ x ∷ []) there ≡ items_from n item so_far before
item_goes {A} n m item so_far before x there e goes =
    let next : A → Input → Read (List A) = λ y after. items_from m item (so_far ++ y ∷ []) after in
    let one = ap (λ (r : Read A). and_then r next) goes in rw e (sym one)

item_fails
    : {A : Type 0} (n m : ℕ) (item : List A → Syntax A) (so_far : List A) (before : Input) (fault : Fault) → n ≡ suc m
    → (item so_far).read before ≡ Err fault → items_from n item so_far before ≡ Err fault
item_fails {A} n m item so_far before fault e fails =
    let next : A → Input → Read (List A) = λ y after. items_from m item (so_far ++ y ∷ []) after in
    let one = ap (λ (r : Read A). and_then r next) fails in rw e one

-- what a thing answers in place of it is the answer
pub item_refused
    : {A : Type 0} (n m : ℕ) (item : List A → Syntax A) (so_far : List A) (before : Input) (all : Read (List A)) (fault : CodeFault) → n ≡ suc m
    → items_from n item so_far before ≡ all → IsFaultOf fault ((item so_far).read before) → IsFaultOf fault all
item_refused n m item so_far before all (Bytes fault) e same fails = sym same ∙ item_fails n m item so_far before fault e fails
item_refused n m item so_far before all NoMemory e same fails = tt

-- what is known behind one more
pub kept_more
    : {S A : Type 0} (after : S → A → S) (s : S) (xs : List A) (x : A) → kept after s (xs ++ x ∷ []) ≡ after (kept after s xs) x
kept_more after s [] x = refl
kept_more after s (y ∷ xs) x = kept_more after (after s y) xs x

-- Things that are spelt alike.

items_same
    : {A : Type 0} (count : ℕ) (item other : List A → Syntax A) (so_far : List A) (before : Input) → ((xs : List A) → item xs ≡ other xs)
    → items_from count item so_far before ≡ items_from count other so_far before
items_same zero item other so_far before same = refl
items_same {A} (suc count) item other so_far before same =
    let next : A → Input → Read (List A) = λ x there. items_from count item (so_far ++ x ∷ []) there in
    let first = ap (λ (s : Syntax A). and_then (s.read before) next) (same so_far) in
    first ∙ and_then_same ((other so_far).read before) next (λ x there. items_from count other (so_far ++ x ∷ []) there)
    (λ x there. items_same count item other (so_far ++ x ∷ []) there same)

pub vectors_same
    : {A : Type 0} (counted : Syntax ℕ) (item other : List A → Syntax A) (before : Input) → ((xs : List A) → item xs ≡ other xs)
    → (vector_of counted item).read before ≡ (vector_of counted other).read before
vectors_same counted item other before same =
    and_then_same (counted.read before) (λ count there. items_from count item [] there) (λ count there. items_from count other [] there)
    (λ count there. items_same count item other [] there same)
