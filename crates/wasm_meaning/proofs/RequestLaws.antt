-- Laws of requests, from those of what is pending.
use Rattle.std.proofs.Common.{◌≡◌, ◌≢◌, ◌⊎◌, inl, inr, ℕ, ◌+◌, ◌≤◌, Some, sym, ap, ◌∙◌, arith}
use Rattle.wasm_meaning.specs.Laws.{with_more, richer}
use Rattle.wasm_meaning.specs.Pending.{Pending, onward}
use Rattle.wasm_meaning.specs.Programs.{instance_of, first}
use Rattle.wasm_meaning.specs.Requests.{Request, BudgetSpent, run_of, concluded, verdict, units}
use Rattle.wasm_meaning.specs.State.{Instance, Outcome, Spent, Run}
use Rattle.wasm_meaning.proofs.Budgets.{onward_balances, onward_agrees, onward_unspent}

-- a run that was not spent is the same run with more budget
pub enough_budget
    : (inst : Instance) (w : Pending) (left more bound other : ℕ) → left ≤ bound → left + more ≤ other → (onward inst bound w left).outcome ≢ Spent
    → onward inst other w (left + more) ≡ with_more more (onward inst bound w left)
enough_budget inst w left more bound other fits more_fits unspent =
    by (onward_unspent inst other w left more)
  where
    same : onward inst bound w left ≡ onward inst other w left
    same = onward_agrees inst w left bound other fits (omega (arith, more_fits))

    by
        : ((onward inst other w left).outcome ≡ Spent) ⊎ (onward inst other w (left + more) ≡ with_more more (onward inst other w left))
        → onward inst other w (left + more) ≡ with_more more (onward inst bound w left)
    by (inl spent) = absurd (unspent (ap (λ (r : Run). r.outcome) same ∙ spent))
    by (inr more_is) = more_is ∙ ap (λ (r : Run). with_more more r) (sym same)

pub units_within : (request : Request) → units request ≤ request.budget
units_within request =
    let whole = (onward_balances (instance_of request.program) request.budget (first request.program request.body) request.budget).sum_is in
    omega (arith, whole)

not_spent : (request : Request) → verdict request ≢ Some BudgetSpent → (run_of request).outcome ≢ Spent
not_spent request unspent spent = unspent (ap (λ (o : Outcome). concluded o (run_of request).state.store.streams.reply) spent)

pub richer_run : (request : Request) (more : ℕ) → verdict request ≢ Some BudgetSpent → run_of (richer more request) ≡ with_more more (run_of request)
richer_run request more unspent =
    enough_budget (instance_of request.program) (first request.program request.body) request.budget more request.budget (request.budget + more)
    (omega arith) (omega arith) (not_spent request unspent)
