-- What the calls of a shared desk do.
use Rattle.std.specs.Prelude.{◌≡◌, ◌⊎◌, ℕ, ◌++◌, List, [], ◌∷◌, Option, Some, None}
use Rattle.job_board.specs.Boarding.{places_of, putting}
use Rattle.job_board.specs.Words.{word}
use Rattle.job_board.specs.declared.words.State.TheVariants as state
use Rattle.run_queues.specs.declared.entries.Entry.{Entry}
use Rattle.sandbox_states.specs.Views.{AnswerView, SandboxView}
use Rattle.wasm_store.specs.View.{View}
use Rattle.worker_desks.specs.Parts.{Pass, Begins, Resumes, IsGivenBack}
use Rattle.worker_desks.specs.Sharing.{SharedView}
use Rattle.worker_desks.specs.declared.duties.Duty.{Duty}
use Rattle.worker_desks.specs.declared.duties.Duty.TheVariants.{Begin, Resume}

-- the first part of a call: a request that begins
abbrev pub BeginsAt : (old new : SharedView) → (pass : Pass) → Option Duty → Type 0
BeginsAt old new pass duty = Begins old.pool old.pool_pass new.pool_pass old.stock new.stock old.queue old.queue_pass new.queue_pass old.board_pass pass duty

-- the others: one that goes on
abbrev pub ResumesAt : (old new : SharedView) → (pass : Pass) → Option SandboxView → Type 0
ResumesAt old new pass sandbox = Resumes old.local.policy old.local.entries new.local.entries (places_of old.board) pass new.board_pass sandbox

-- The next duty: a request begins on a berth from the stock or the pool. Else the desk's own queue is gone through in the order of its policy, and then all places, until a claim gets a request that was stopped.
-- None: no request begins, the own queue is empty, and each place was looked at once and passed over.
abbrev pub IsNext : (old new : SharedView) → Option Duty → Type 0
IsNext old new (Some (Begin job berth)) = BeginsAt old new new.board_pass (Some (Begin job berth)) × (new.local ≡ old.local)
IsNext old new (Some (Resume sandbox)) = (pass : Pass) × BeginsAt old new pass None × ResumesAt old new pass (Some sandbox)
IsNext old new None = (pass : Pass) × BeginsAt old new pass None × ResumesAt old new pass None

abbrev pub entry_of : SandboxView → Entry
entry_of sandbox = record { place = sandbox.place; deadline = sandbox.deadline; turns = sandbox.turns }

-- the sandbox is put on the board, and its entry pushed
abbrev pub IsPutBack : (old new : SharedView) → SandboxView → Type 0
IsPutBack old new sandbox =
    new ≡ record old {
      board_pass = putting old.board_pass sandbox.place (word sandbox.turns state.Suspended);
      local = record old.local { entries = old.local.entries ++ entry_of sandbox ∷ [] };
      out = None;
    }

-- the answer is put on the board, and the berth goes to the pool or into stock, or is dropped
pub record IsTakenIn (old new : SharedView) (answer : AnswerView) (berth : View) : Type 0 where
  pub put : new.board_pass ≡ putting old.board_pass answer.place (word answer.turns state.Answered)
  pub given_back : IsGivenBack old.pool old.pool_pass new.pool_pass old.stock new.stock berth
  pub others : new ≡ record old { board_pass = new.board_pass; pool_pass = new.pool_pass; stock = new.stock; out = None }
