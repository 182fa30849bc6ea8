-- What contracts see of a desk over shared objects, and what always holds of it.
use Rattle.std.specs.Prelude.{◌≡◌, ℕ, ◌+◌, ◌*◌, ◌<◌, ◌≤◌, ◌^◌, Bool, true, false, List, [], length, slice_get, Option, Some, None, option_map}
use Rattle.std.specs.List.{All}
use Rattle.job_board.specs.Boarding as boards
use Rattle.job_board.specs.Boarding.{BoardView, places_of, RisesPast, hold}
use Rattle.job_board.specs.Words.{rank}
use Rattle.job_board.specs.declared.words.Word.{Word}
use Rattle.memory_pool.specs.Passing as pools
use Rattle.memory_pool.specs.Passing.{PoolView}
use Rattle.run_queues.specs.Drawing.{CommonView, Drawing}
use Rattle.run_queues.specs.Queue.{Queue}
use Rattle.run_queues.specs.declared.entries.Entry.{Entry}
use Rattle.run_queues.specs.declared.policies.Policy.{Policy}
use Rattle.sandbox_states.specs.Views.{SandboxView}
use Rattle.wasm_store.specs.View.{View}
use Rattle.worker_desks.specs.Desks.{DeskView}
use Rattle.worker_desks.specs.Duties.{begins_of}
use Rattle.worker_desks.specs.Noted.{due_of, notes_due, turns_left, begun_places, answered_places, most_turns}
use Rattle.worker_desks.specs.Tasks.{FitsIn, IsNextOf}
use Rattle.worker_desks.specs.declared.duties.Duty.{Duty}
use Rattle.worker_desks.specs.declared.sharing.Shared.{Shared}
use Rattle.worker_desks.specs.declared.tasks.Task.{Task}
use Rattle.worker_desks.specs.declared.tasks.Task.TheVariants.{Suspended}

-- the board, the pool and the queue with the desk's pass for each; its own queue, its berths in stock, and how many of them there is memory for; the duty that is out, how many it has given, and whether its last `next` gave none
pub record SharedView : Type 0 where
  pub board : BoardView Task
  pub board_pass : boards.PassView Task
  pub pool : PoolView
  pub pool_pass : pools.PassView
  pub queue : CommonView
  pub queue_pass : Drawing
  pub local : Queue
  pub stock : List View
  pub stock_room : ℕ
  pub out : Option Duty
  pub given : ℕ
  pub ended : Bool

abbrev pub empty_queue : Policy → (room : ℕ) → Queue
empty_queue policy room = record { policy = policy; room = room; entries = [] }

-- a new desk has nothing of its own, room for one entry more than there are places, and memory for so many berths
abbrev pub new_desk : Policy → BoardView Task → boards.PassView Task → PoolView → pools.PassView → CommonView → Drawing → (stock_room : ℕ) → SharedView
new_desk policy b board_pass p pool_pass queue queue_pass stock_room = record {
  board = b;
  board_pass = board_pass;
  pool = p;
  pool_pass = pool_pass;
  queue = queue;
  queue_pass = queue_pass;
  local = empty_queue policy (places_of b + 1);
  stock = [];
  stock_room = stock_room;
  out = None;
  given = 0;
  ended = false;
}

-- what it tells as a desk: it can give no more duties than all places may still have turns
abbrev pub state_of : SharedView → DeskView
state_of d = record {
  bound = turns_left (places_of d.board) (notes_due d.board_pass);
  given = d.given;
  ended = d.ended;
  out = option_map begins_of d.out;
  quantum = d.board.terms.quantum;
}

-- what it serves, and how
abbrev pub served_by : SharedView → Shared
served_by d = record {
  board = d.board;
  pool = d.pool;
  queue = d.queue;
  board_parts = d.board_pass.parts;
  pool_parts = d.pool_pass.parts;
  queue_parts = d.queue_pass.parts;
  policy = d.local.policy;
  room = d.local.room;
}

-- What always holds.

-- an entry of a place of the board, with turns that its word may have
pub record IsEntryOf (places : ℕ) (entry : Entry) : Type 0 where
  pub inside : entry.place < places
  pub few : entry.turns < 2305843009213693952

-- the pass holds the place of the sandbox, and found it there with as many turns. Nothing that was noted of the place before is past that, and the sandbox stands for the request of the place
pub record HoldsDuty (s : SandboxView) (pass : boards.PassView Task) : Type 0 where
  pub found : Word
  pub held : pass.held ≡ Some (hold s.place found)
  pub turns : found.turns ≡ s.turns
  pub unanswered : rank found.state ≤ 1
  pub few : s.turns ≤ 1099511627776
  pub inside : s.place < pass.id.words
  pub past : RisesPast pass.notes s.place found
  pub first : Task
  pub first_is : slice_get pass.terms.jobs s.place ≡ Some first
  pub owned : IsNextOf pass.terms.quantum first (Suspended s)

-- a place is held just where a duty is out, and it is the duty's
abbrev pub OutStands : Option Duty → boards.PassView Task → Type 0
OutStands None pass = pass.held ≡ None
OutStands (Some duty) pass = HoldsDuty (begins_of duty) pass

-- Each pass is of its object. All places that may be drawn are the board's, and the berths fit each request.
-- The entries are no more than the places that were begun, and one; the berths in stock no more than the places that were answered, and one; and no duty is given beyond the turns that all places have.
pub record IsShared (d : SharedView) : Type 0 where
  pub board_own : boards.IsPassOf d.board d.board_pass
  pub fixed : d.board.terms.fixed ≡ true
  pub pool_own : pools.IsPassOf d.pool d.pool_pass
  pub queue_own : d.queue_pass.id ≡ d.queue.id
  pub drawn : All (λ place. place < places_of d.board) d.queue.places
  pub roomy : All (FitsIn d.pool.pages) d.board.terms.jobs
  pub stocked : All (λ (berth : View). berth.pages ≡ d.pool.pages) d.stock
  pub entries : All (IsEntryOf (places_of d.board)) d.local.entries
  pub room : d.local.room ≡ places_of d.board + 1
  pub out : OutStands d.out d.board_pass
  pub waiting : length d.local.entries + length (due_of d.board_pass.held) ≤ begun_places (places_of d.board) (notes_due d.board_pass) + 1
  pub kept : length d.stock ≤ answered_places (places_of d.board) (notes_due d.board_pass) + 1
  pub counted : d.given + turns_left (places_of d.board) (notes_due d.board_pass) ≤ places_of d.board * most_turns
