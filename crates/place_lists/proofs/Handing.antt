-- Each step on the inbox keeps its rule.
use Rattle.std.proofs.Common.{◌≡◌, ℕ, ◌+◌, List, [], ◌∷◌, ◌++◌, All, refl, arith}
use Rattle.std.proofs.lemmas.List.Elements.{All-nil, All-cons, All-head, All-tail, All-append}
use Rattle.crossbeam_deque.specs.Tasks.{Pushes, Takes, Admits}
use Rattle.view_totals.proofs.Sums.{total-push, total-set}
use Rattle.place_lists.specs.Handing.{hand, empty_handed, Handed, pushed, stole}
use Rattle.place_lists.specs.Places.{IsPlace, times}
use Rattle.place_lists.specs.declared.keepers.Hand.{Hand}

pub times-append : (n : ℕ) (xs ys : List ℕ) → times n (xs ++ ys) ≡ times n xs + times n ys
times-append n [] ys = omega arith
times-append n (x ∷ xs) ys = omega (arith, times-append n xs ys)

both_parts : (xs ys : List ℕ) → All IsPlace (xs ++ ys) → All IsPlace xs × All IsPlace ys
both_parts [] ys all = (All-nil IsPlace, all)
both_parts (x ∷ xs) ys all =
    let rest = both_parts xs ys (All-tail IsPlace x (xs ++ ys) all) in
    (All-cons IsPlace x xs (All-head IsPlace x (xs ++ ys) all) rest.0, rest.1)

pub begins : Handed [] (empty_handed ∷ [])
begins = record { places = All-nil IsPlace; each = λ n. refl }

pub admits : Admits Handed empty_handed
admits items views rule =
    record {
      places = rule.places;
      each = λ n. omega (arith, rule.each n, total-push (λ (u : Hand). times n u.pushed) views empty_handed, total-push (λ (u : Hand). times n u.stolen) views empty_handed);
    }

pub pushes : (port : ℕ) (v : Hand) (place : ℕ) → IsPlace place → Pushes Handed port v (place ∷ []) (pushed v (place ∷ []))
pushes port v place within items views rule at =
    let w = hand (v.pushed ++ place ∷ []) v.stolen in (
      w,
      record {
        places = All-append IsPlace items (place ∷ []) rule.places (All-cons IsPlace place [] within (All-nil IsPlace));
        each = λ n.
            omega (
              arith,
              rule.each n,
              total-set (λ (u : Hand). times n u.pushed) views port v w at,
              total-set (λ (u : Hand). times n u.stolen) views port v w at,
              times-append n v.pushed (place ∷ []),
              times-append n items (place ∷ []),
            );
      },
      refl,
    )

pub takes : (port : ℕ) (v : Hand) (most : ℕ) → Takes Handed port v most (stole v)
takes port v most xs items views least few rule at =
    let parts = both_parts xs items rule.places in
    let w = hand v.pushed (v.stolen ++ xs) in (
      w,
      record {
        places = parts.1;
        each = λ n.
            omega (
              arith,
              rule.each n,
              total-set (λ (u : Hand). times n u.pushed) views port v w at,
              total-set (λ (u : Hand). times n u.stolen) views port v w at,
              times-append n v.stolen xs,
              times-append n xs items,
            );
      },
      (parts.0, refl),
    )
