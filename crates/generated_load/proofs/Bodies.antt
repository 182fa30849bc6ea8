-- One byte more of a request's body.
use Rattle.std.proofs.Common.{◌≡◌, ℕ, ◌+◌, List, [], ◌∷◌, ◌++◌, sym, ap, ◌∙◌, arith, append_assoc}
use Rattle.std.specs.Prelude.{map}
use Rattle.std.specs.List.{range_with_len}
use Rattle.std.proofs.lemmas.List.FromFn.{map-range_with_len_more}
use Rattle.generated_load.specs.Requests.{body_byte}

pub one_more_byte : (drawn place : ℕ) (before bytes : List ℕ) → bytes ≡ before ++ map (body_byte drawn) (range_with_len 0 place)
    → bytes ++ body_byte drawn place ∷ [] ≡ before ++ map (body_byte drawn) (range_with_len 0 (place + 1))
one_more_byte drawn place before bytes is =
    ap (λ (bs : List ℕ). bs ++ body_byte drawn place ∷ []) is
    ∙ (append_assoc before (map (body_byte drawn) (range_with_len 0 place)) (body_byte drawn place ∷ [])
    ∙ ap (λ (bs : List ℕ). before ++ bs) (sym (map-range_with_len_more (body_byte drawn) 0 place place (omega arith))))
