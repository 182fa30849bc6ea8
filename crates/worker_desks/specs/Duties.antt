-- What a duty begins with, and what may be handed back for it.
use Rattle.std.specs.Prelude.{◌≡◌, ℕ, ◌≤◌, Option, Some, None}
use Rattle.sandbox_states.specs.Stands.{IsOneTurn, IsLastTurn}
use Rattle.sandbox_states.specs.Views.{SandboxView, FinishedView, AnswerView, started, answer_of}
use Rattle.wasm_store.specs.View.{View}
use Rattle.worker_desks.specs.declared.duties.Duty.{Duty}
use Rattle.worker_desks.specs.declared.duties.Duty.TheVariants.{Begin, Resume}

-- the sandbox that is to run: where the request begins on its berth, or as it was stopped
abbrev pub begins_of : Duty → SandboxView
begins_of (Begin job berth) = started job berth
begins_of (Resume sandbox) = sandbox

-- a request that begins has a berth with at least the pages of its program
abbrev pub HasRoom : Duty → Type 0
HasRoom (Begin job berth) = job.request.program.pages ≤ berth.pages
HasRoom (Resume sandbox) = Unit {0}

-- a duty is out, and P holds of the sandbox that it begins with
abbrev pub OfDuty : Option SandboxView → (SandboxView → Type 0) → Type 0
OfDuty None P = ⊥
OfDuty (Some old) P = P old

-- the answer after one turn, the last, of what was handed out, with a berth of as many pages as its own
pub record IsDelivered (quantum : ℕ) (old : SandboxView) (answer : AnswerView) (berth : View) : Type 0 where
  pub finished : FinishedView
  pub last : IsLastTurn quantum old finished
  pub answered : answer ≡ answer_of finished
  pub pages : berth.pages ≡ old.pages
