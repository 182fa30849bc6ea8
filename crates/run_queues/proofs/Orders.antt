-- The order of entries by deadline, place and turns, and the first of the least ones so far.
use Rattle.std.proofs.Common.{◌≡◌, ℕ, zero, suc, ◌+◌, ◌<◌, true, false, List, [], ◌∷◌, length, get_or, refl, arith}
use Rattle.std.proofs.lemmas.Cmp.{then_total, on_total, nat_cmp_total}
use Rattle.std.proofs.lemmas.List.MinMax.{ranks_by, IsFirstBest-takes, IsFirstBest-keeps}
use Rattle.std.specs.Cmp.{IsStrictWeakOrder}
use Rattle.std.specs.List.{IsFirstBest}
use Rattle.run_queues.specs.Serving.{comes_before}
use Rattle.run_queues.specs.declared.entries.Entry.{Entry}

comes_before_order : IsStrictWeakOrder comes_before
comes_before_order =
    ranks_by (then_total (on_total (λ (e : Entry). e.deadline) nat_cmp_total) (then_total (on_total (λ (e : Entry). e.place) nat_cmp_total) (on_total (λ (e : Entry). e.turns) nat_cmp_total))) (λ (e : Entry). e)

-- within a list, what is read does not depend on the default
at_any : (xs : List Entry) (i : ℕ) (d e : Entry) → i < length xs → get_or xs i d ≡ get_or xs i e
at_any [] i d e inside = absurd (omega arith)
at_any (x ∷ xs) zero d e inside = refl
at_any (x ∷ xs) (suc i) d e inside = at_any xs i d e (omega arith)

pub takes_first : (xs : List Entry) (i first : ℕ) (d : Entry) → IsFirstBest comes_before xs i first → i < length xs → comes_before (get_or xs i d) (get_or xs first d) ≡ true
    → IsFirstBest comes_before xs (i + 1) i
takes_first xs i first d so_far inside less =
    let x : Entry = get_or xs i d in
    let y : Entry = get_or xs first d in
    let before = so_far.0 in
    IsFirstBest-takes comes_before_order xs i first x y so_far inside (at_any xs i d x inside) (at_any xs first d y (omega arith)) less

pub keeps_first : (xs : List Entry) (i first : ℕ) (d : Entry) → IsFirstBest comes_before xs i first → i < length xs → comes_before (get_or xs i d) (get_or xs first d) ≡ false
    → IsFirstBest comes_before xs (i + 1) first
keeps_first xs i first d so_far inside less =
    let x : Entry = get_or xs i d in
    let y : Entry = get_or xs first d in
    let before = so_far.0 in
    IsFirstBest-keeps comes_before_order xs i first x y so_far inside (at_any xs i d x inside) (at_any xs first d y (omega arith)) less
