-- Laws of budgets: prices and what is left make the budget, a greater bound changes nothing, and more budget changes nothing of a run that had enough.
use Rattle.std.proofs.Common.{◌≡◌, ◌⊎◌, inl, inr, ℕ, zero, suc, ◌+◌, ◌-◌, ◌<◌, ◌≤◌, Bool, true, false, nat_lt, List, [], ◌∷◌, sum, refl, sym, ap, subst, ◌∙◌, arith}
use Rattle.std.proofs.lemmas.Bool.Decides.{nat_tests}
use Rattle.std.proofs.lemmas.List.Sums.{sum_by-append}
use Rattle.wasm_meaning.specs.Execution.{pay_if, pay, exec, nothing_left}
use Rattle.wasm_meaning.specs.Laws.{Balances, with_more}
use Rattle.wasm_meaning.specs.Pending.{Pending, onward}
use Rattle.wasm_meaning.specs.State.{Instance, State, Outcome, Spent, Run, Runner, Next, ends, paid, after}
use Rattle.wasm_meaning.proofs.Related.{NextRelated, RunnerRelated, Lifts, walk_related, onward_related}

not_below : (n m : ℕ) → nat_lt n m ≡ false → m ≤ n
not_below n m e = grind (arith, nat_tests)

is_below : (n m : ℕ) → nat_lt n m ≡ true → n < m
is_below n m e = grind (arith, nat_tests)

pub not_short : (n m : ℕ) → m ≤ n → nat_lt n m ≡ false
not_short n m e = grind (arith, nat_tests)

-- Prices and what is left make the budget.

Any : ℕ → ℕ → Type 0
Any l l' = Unit {0}

Balanced : ℕ → ℕ → Run → Run → Type 0
Balanced l l' r r' = Balances l r

paid_balances : (prices : List ℕ) (budget l : ℕ) (r : Run) → sum prices + l ≡ budget → Balances l r → Balances budget (paid prices r)
paid_balances prices budget l r e b = record { sum_is = omega (arith, sum_by-append (λ x. x) prices r.prices, b.sum_is, e) }

pay_balances
    : (price : ℕ) (st : State) (l : ℕ) (go : ℕ → Run) → (price ≤ l → Balances (l - price) (go (l - price))) → (b : Bool) → nat_lt l price ≡ b
    → Balances l (pay_if b price st l go)
pay_balances price st l go h true e = record { sum_is = omega arith }
pay_balances price st l go h false e =
    let fits = not_below l price e in
    paid_balances (price ∷ []) l (l - price) (go (l - price)) (omega (arith, fits)) (h fits)

balances_lift : Lifts Any Balanced
unfolding Any Balanced
balances_lift = record {
  ended = λ o st l l' is. record { sum_is = omega arith };
  pays = λ price st l l' go go' is h. pay_balances price st l go (λ fits. h fits tt) (nat_lt l price) refl;
  follows = λ n l l' r r' next next' is lt b g.
      paid_balances r.prices l r.left (next r.outcome r.state r.left) b.sum_is
      ((g.behind r.outcome).at r.state r.left r.left tt (omega (arith, b.sum_is, lt)));
}

spent_balances : (n : ℕ) → RunnerRelated Any Balanced n nothing_left nothing_left
unfolding Any Balanced
spent_balances n = record { runs = λ s. record { at = λ st l l' is lt. record { sum_is = omega arith } } }

exec_balances : (inst : Instance) (bound n : ℕ) → RunnerRelated Any Balanced (suc n) (exec inst bound) (exec inst bound)
exec_balances inst zero n = record { runs = walk_related Any Balanced balances_lift inst n nothing_left nothing_left (spent_balances n) }
exec_balances inst (suc bound) n =
    let below : RunnerRelated Any Balanced n (exec inst bound) (exec inst bound) = record {
      runs = λ s. record { at = λ st l l' is lt. ((exec_balances inst bound n).runs s).at st l l' is (omega (arith, lt)) };
    } in
    record { runs = walk_related Any Balanced balances_lift inst n (exec inst bound) (exec inst bound) below }

pub onward_balances : (inst : Instance) (bound : ℕ) (w : Pending) (left : ℕ) → Balances left (onward inst bound w left)
unfolding Any Balanced
onward_balances inst bound w left =
    onward_related Any Balanced balances_lift inst (suc left) bound bound (exec_balances inst bound left) w left left tt (omega arith)

-- A greater bound changes nothing.

Same : ℕ → ℕ → Type 0
Same l l' = l ≡ l'

pub record Agrees (l l' : ℕ) (r r' : Run) : Type 0 where
  pub within : r.left ≤ l
  pub same : r ≡ r'

pay_agrees
    : (price : ℕ) (st : State) (l : ℕ) (go go' : ℕ → Run) → (price ≤ l → Agrees (l - price) (l - price) (go (l - price)) (go' (l - price)))
    → (b : Bool) → nat_lt l price ≡ b → Agrees l l (pay_if b price st l go) (pay_if b price st l go')
pay_agrees price st l go go' h true e = record { within = omega arith; same = refl }
pay_agrees price st l go go' h false e =
    let rest = h (not_below l price e) in
    record { within = omega (arith, rest.within); same = ap (λ (r : Run). paid (price ∷ []) r) rest.same }

follow_agrees
    : (l : ℕ) (r r' : Run) (next next' : Next) → Agrees l l r r' → Agrees r.left r.left (next r.outcome r.state r.left) (next' r.outcome r.state r.left)
    → Agrees l l (after r next) (after r' next')
follow_agrees l r r' next next' a g = record {
  within = omega (arith, a.within, g.within);
  same = ap (λ (x : Run). paid r.prices x) g.same ∙ ap (λ (x : Run). after x next') a.same;
}

agrees_lift : Lifts Same Agrees
unfolding Same
agrees_lift = record {
  ended = λ o st l l' is. subst (λ (k : ℕ). Agrees l k (ends o st l) (ends o st k)) is (record { within = omega arith; same = refl });
  pays = λ price st l l' go go' is h.
      agrees_at price st l l' go go' is h;
  follows = λ n l l' r r' next next' is lt a g.
      followed_at l l' r r' next next' is a ((g.behind r.outcome).at r.state r.left r.left refl (omega (arith, a.within, lt)));
}
  where
    agrees_at
        : (price : ℕ) (st : State) (l l' : ℕ) (go go' : ℕ → Run) → l ≡ l'
        → (price ≤ l → l - price ≡ l' - price → Agrees (l - price) (l' - price) (go (l - price)) (go' (l' - price)))
        → Agrees l l' (pay price st l go) (pay price st l' go')
    agrees_at price st l l' go go' is h =
        let here = λ (fits : price ≤ l).
        subst (λ (k : ℕ). Agrees (l - price) (k - price) (go (l - price)) (go' (k - price))) (sym is) (h fits (ap (λ (k : ℕ). k - price) is)) in
        subst (λ (k : ℕ). Agrees l k (pay price st l go) (pay price st k go')) is
        (pay_agrees price st l go go' here (nat_lt l price) refl)

    followed_at
        : (l l' : ℕ) (r r' : Run) (next next' : Next) → l ≡ l' → Agrees l l' r r'
        → Agrees r.left r.left (next r.outcome r.state r.left) (next' r.outcome r.state r.left)
        → Agrees l l' (after r next) (after r' next')
    followed_at l l' r r' next next' is a g =
        let here = follow_agrees l r r' next next' (record { within = a.within; same = a.same }) g in
        record { within = here.within; same = here.same }

-- nothing is looked at where nothing is left below
none_related : (n : ℕ) (again again' : Runner) → n ≤ 0 → RunnerRelated Same Agrees n again again'
none_related n again again' e = record { runs = λ s. record { at = λ st l l' is lt. let bad : ⊥ = none l lt in absurd bad } }
  where
    none : (l : ℕ) → l < n → ⊥
    none l lt = omega (arith, lt, e)

-- both bounds are at least what is left
exec_agrees
    : (inst : Instance) (n bound other : ℕ) → n ≤ bound → n ≤ other → RunnerRelated Same Agrees (suc n) (exec inst bound) (exec inst other)
exec_agrees inst n zero zero b c = record {
  runs = walk_related Same Agrees agrees_lift inst n nothing_left nothing_left (none_related n nothing_left nothing_left b);
}
exec_agrees inst n zero (suc other) b c = record {
  runs = walk_related Same Agrees agrees_lift inst n nothing_left (exec inst other) (none_related n nothing_left (exec inst other) b);
}
exec_agrees inst n (suc bound) zero b c = record {
  runs = walk_related Same Agrees agrees_lift inst n (exec inst bound) nothing_left (none_related n (exec inst bound) nothing_left c);
}
exec_agrees inst zero (suc bound) (suc other) b c = record {
  runs = walk_related Same Agrees agrees_lift inst zero (exec inst bound) (exec inst other) (none_related zero (exec inst bound) (exec inst other) (omega arith));
}
exec_agrees inst (suc n) (suc bound) (suc other) b c = record {
  runs = walk_related Same Agrees agrees_lift inst (suc n) (exec inst bound) (exec inst other) (exec_agrees inst n bound other (omega (arith, b)) (omega (arith, c)));
}

pub onward_agrees
    : (inst : Instance) (w : Pending) (left bound other : ℕ) → left ≤ bound → left ≤ other → onward inst bound w left ≡ onward inst other w left
unfolding Same
onward_agrees inst w left bound other b c =
    (onward_related Same Agrees agrees_lift inst (suc left) bound other (exec_agrees inst left bound other b c) w left left refl (omega arith)).same

-- More budget changes nothing of a run that had enough.

More : (more : ℕ) → ℕ → ℕ → Type 0
More more l l' = l' ≡ l + more

pub record Unspent (more l l' : ℕ) (r r' : Run) : Type 0 where
  pub within : r.left ≤ l
  pub same : (r.outcome ≡ Spent) ⊎ (r' ≡ with_more more r)

pay_unspent
    : (more price : ℕ) (st : State) (l : ℕ) (go go' : ℕ → Run)
    → (price ≤ l → Unspent more (l - price) (l + more - price) (go (l - price)) (go' (l + more - price)))
    → (b b' : Bool) → nat_lt l price ≡ b → nat_lt (l + more) price ≡ b'
    → Unspent more l (l + more) (pay_if b price st l go) (pay_if b' price st (l + more) go')
pay_unspent more price st l go go' h true b' e e' = record { within = omega arith; same = inl refl }
pay_unspent more price st l go go' h false true e e' =
    let fits = not_below l price e in
    let short = is_below (l + more) price e' in
    let bad : ⊥ = omega (arith, fits, short) in absurd bad
pay_unspent more price st l go go' h false false e e' =
    let rest = h (not_below l price e) in
    record { within = omega (arith, rest.within); same = paid_same rest.same }
  where
    paid_same
        : ((go (l - price)).outcome ≡ Spent) ⊎ (go' (l + more - price) ≡ with_more more (go (l - price)))
        → ((go (l - price)).outcome ≡ Spent) ⊎ (paid (price ∷ []) (go' (l + more - price)) ≡ with_more more (paid (price ∷ []) (go (l - price))))
    paid_same (inl spent) = inl spent
    paid_same (inr same) = inr (ap (λ (r : Run). paid (price ∷ []) r) same)

-- what follows a run that was not spent
follow_unspent
    : (more l : ℕ) (r : Run) (next next' : Next) → r.left ≤ l
    → Unspent more r.left (r.left + more) (next r.outcome r.state r.left) (next' r.outcome r.state (r.left + more))
    → Unspent more l (l + more) (after r next) (after (with_more more r) next')
follow_unspent more l r next next' within g = record { within = omega (arith, within, g.within); same = behind g.same }
  where
    behind
        : ((next r.outcome r.state r.left).outcome ≡ Spent) ⊎ (next' r.outcome r.state (r.left + more) ≡ with_more more (next r.outcome r.state r.left))
        → ((next r.outcome r.state r.left).outcome ≡ Spent) ⊎ (after (with_more more r) next' ≡ with_more more (after r next))
    behind (inl spent) = inl spent
    behind (inr same) = inr (ap (λ (x : Run). paid r.prices x) same)

unspent_lift : (more : ℕ) → Lifts (More more) (Unspent more)
unfolding More
unspent_lift more = record {
  ended = λ o st l l' is. record { within = omega arith; same = inr (ap (λ (k : ℕ). ends o st k) is) };
  pays = λ price st l l' go go' is h. paying price st l l' go go' is h;
  follows = λ n l l' r r' next next' is lt u g. following n l l' r r' next next' is lt u u.same g;
}
  where
    paying
        : (price : ℕ) (st : State) (l l' : ℕ) (go go' : ℕ → Run) → l' ≡ l + more
        → (price ≤ l → l' - price ≡ l - price + more → Unspent more (l - price) (l' - price) (go (l - price)) (go' (l' - price)))
        → Unspent more l l' (pay price st l go) (pay price st l' go')
    paying price st l l' go go' is h =
        let here = λ (fits : price ≤ l). subst (λ (k : ℕ). Unspent more (l - price) (k - price) (go (l - price)) (go' (k - price))) is
        (h fits (less l l' price is fits)) in
        subst (λ (k : ℕ). Unspent more l k (pay price st l go) (pay price st k go')) (sym is)
        (pay_unspent more price st l go go' here (nat_lt l price) (nat_lt (l + more) price) refl refl)
      where
        less : (l l' price : ℕ) → l' ≡ l + more → price ≤ l → l' - price ≡ l - price + more
        less l l' price is fits = omega (arith, is, fits)

    following
        : (n l l' : ℕ) (r r' : Run) (next next' : Next) → l' ≡ l + more → l < n → Unspent more l l' r r'
        → (r.outcome ≡ Spent) ⊎ (r' ≡ with_more more r) → NextRelated (More more) (Unspent more) n next next'
        → Unspent more l l' (after r next) (after r' next')
    following n l l' r r' next next' is lt u (inl spent) g =
        let here : next r.outcome r.state r.left ≡ ends Spent r.state r.left
        = ap (λ (o : Outcome). next o r.state r.left) spent ∙ g.spent r.state r.left in
        record {
          within = omega (arith, u.within, ap (λ (x : Run). x.left) here);
          same = inl (ap (λ (x : Run). x.outcome) here);
        }
    following n l l' r r' next next' is lt u (inr same) g =
        let rest = (g.behind r.outcome).at r.state r.left (r.left + more) refl (omega (arith, u.within, lt)) in
        let here = follow_unspent more l r next next' u.within rest in
        subst (λ (k : ℕ). Unspent more l k (after r next) (after r' next')) (sym is)
        (subst (λ (x : Run). Unspent more l (l + more) (after r next) (after x next')) (sym same) here)

exec_unspent : (inst : Instance) (more bound n : ℕ) → RunnerRelated (More more) (Unspent more) (suc n) (exec inst bound) (exec inst bound)
exec_unspent inst more zero n = record {
  runs = walk_related (More more) (Unspent more) (unspent_lift more) inst n nothing_left nothing_left
      (record { runs = λ s. record { at = λ st l l' is lt. record { within = omega arith; same = inl refl } } });
}
exec_unspent inst more (suc bound) n =
    let below : RunnerRelated (More more) (Unspent more) n (exec inst bound) (exec inst bound) = record {
      runs = λ s. record { at = λ st l l' is lt. ((exec_unspent inst more bound n).runs s).at st l l' is (omega (arith, lt)) };
    } in
    record { runs = walk_related (More more) (Unspent more) (unspent_lift more) inst n (exec inst bound) (exec inst bound) below }

pub onward_unspent
    : (inst : Instance) (bound : ℕ) (w : Pending) (left more : ℕ)
    → ((onward inst bound w left).outcome ≡ Spent) ⊎ (onward inst bound w (left + more) ≡ with_more more (onward inst bound w left))
unfolding More
onward_unspent inst bound w left more =
    (onward_related (More more) (Unspent more) (unspent_lift more) inst (suc left) bound bound (exec_unspent inst more bound left) w left (left + more) refl (omega arith)).same
