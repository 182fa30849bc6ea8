use Rattle.std.proofs.Common.{◌≡◌, ℕ, sym, subst, ◌∙◌}
use Rattle.sandbox_states.specs.Stands.{IsLastTurn}
use Rattle.sandbox_states.specs.Views.{SandboxView, FinishedView, AnswerView, answer_of}
use Rattle.wasm_store.specs.View.{View}
use Rattle.worker_desks.specs.Duties.{IsDelivered}
use Rattle.worker_desks.proofs.working.serve.Goals as goal

delivered : (quantum : ℕ) (old s : SandboxView) (f : FinishedView) (a : AnswerView) (b : View) → s ≡ old → IsLastTurn quantum s f → a ≡ answer_of f → b.pages ≡ f.pages → IsDelivered quantum old a b
delivered quantum old s f a b same last answered pages =
    let here : IsLastTurn quantum old f = subst (λ (x : SandboxView). IsLastTurn quantum x f) same last in
    record { finished = f; last = here; answered = answered; pages = pages ∙ here.same_pages }

pub returns-in-Done : goal.returns-in-Done
returns-in-Done g c =
    delivered _ _ _ c.in-Done.finished _ _ c.begun-sandbox.ensures c.in-Done.ensures.turn c.settle-answer.ensures.answer c.settle-answer.ensures.pages
