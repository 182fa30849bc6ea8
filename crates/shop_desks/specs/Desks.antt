-- What contracts see of a shop's desk, what always holds of it, and what its calls do.
use Rattle.std.specs.Prelude.{◌≡◌, ◌≢◌, ◌⊎◌, ℕ, ◌+◌, ◌<◌, ◌≤◌, ◌^◌, Bool, false, List, [], ◌∷◌, ◌++◌, length, Option, Some, None, option_map}
use Rattle.std.specs.List.{All}
use Rattle.job_board.specs.Boarding as boards
use Rattle.job_board.specs.Boarding.{hold, putting}
use Rattle.job_board.specs.Words.{word}
use Rattle.job_board.specs.declared.words.State.TheVariants as state
use Rattle.job_board.specs.declared.words.Word.{Word}
use Rattle.memory_pool.specs.Giving.{IsGiven}
use Rattle.memory_pool.specs.Passing as pools
use Rattle.memory_pool.specs.Passing.{PoolView}
use Rattle.memory_pool.specs.declared.answers.Given.TheVariants.{Home, Kept}
use Rattle.place_lists.specs.Inboxes as inboxes
use Rattle.posted_jobs.specs.Posting.{PostedView}
use Rattle.run_queues.specs.Queue.{Queue}
use Rattle.sandbox_states.specs.Views.{SandboxView, AnswerView}
use Rattle.wasm_meaning.specs.Requests.{Request}
use Rattle.wasm_store.specs.View.{View}
use Rattle.worker_desks.specs.Desks.{DeskView}
use Rattle.worker_desks.specs.Duties.{begins_of}
use Rattle.worker_desks.specs.Nexts.{entry_of}
use Rattle.worker_desks.specs.Sharing.{IsEntryOf, empty_queue}
use Rattle.worker_desks.specs.declared.duties.Duty.{Duty}
use Rattle.shop_desks.specs.Shops.{ShopView, VisitView}

-- a duty that is out, and the request that it is for
pub record HandedView : Type 0 where
  pub request : Request
  pub duty : Duty

-- the shop, with the desk's passes; its own queue, its berths in stock, and how many of them there is memory for; the duty that is out; how many it may still give, how many it has given since the last grant, and whether its last `next` gave none
pub record ShopDeskView : Type 0 where
  pub shop : ShopView
  pub board_pass : boards.PassView PostedView
  pub pool_pass : pools.PassView
  pub inbox_pass : inboxes.PassView
  pub local : Queue
  pub stock : List View
  pub stock_room : ℕ
  pub out : Option HandedView
  pub left : ℕ
  pub given : ℕ
  pub ended : Bool

abbrev pub handed : Request → Duty → HandedView
handed request duty = record { request = request; duty = duty }

abbrev pub begins_in : HandedView → SandboxView
begins_in handed = begins_of handed.duty

-- what it tells as a desk
abbrev pub state_of : ShopDeskView → DeskView
state_of d = record { bound = d.left; given = d.given; ended = d.ended; out = option_map begins_in d.out; quantum = d.shop.quantum }

-- the pass holds the place of the sandbox, and found it there with as many turns, and not over
pub record HoldsDuty (s : SandboxView) (pass : boards.PassView PostedView) : Type 0 where
  pub found : Word
  pub held : pass.held ≡ Some (hold s.place found)
  pub turns : found.turns ≡ s.turns
  pub unanswered : found.state ≢ state.Answered
  pub inside : s.place < 256

abbrev pub OutStands : Option HandedView → boards.PassView PostedView → Type 0
OutStands None pass = pass.held ≡ None
OutStands (Some handed) pass = HoldsDuty (begins_in handed) pass

-- how many duties are out
abbrev pub many_out : Option HandedView → ℕ
many_out None = 0
many_out (Some handed) = 1

-- each pass is of the shop's object; the berths in stock have the pool's pages; there is room for the entry of the duty that is out; and the duties of a grant are counted in 64 bits
pub record IsDeskOf (d : ShopDeskView) : Type 0 where
  pub board_own : boards.IsPassOf d.shop.board d.board_pass
  pub pool_own : pools.IsPassOf d.shop.pool d.pool_pass
  pub inbox_own : inboxes.IsPassOf d.shop.inbox d.inbox_pass
  pub policy : d.local.policy ≡ d.shop.policy
  pub room : d.local.room ≡ 256
  pub entries : All (IsEntryOf 256) d.local.entries
  pub few : length d.local.entries + many_out d.out ≤ 256
  pub stocked : All (λ (berth : View). berth.pages ≡ d.shop.pool.pages) d.stock
  pub kept : length d.stock ≤ 256
  pub memory : 256 ≤ d.stock_room
  pub counted : d.left + d.given < 2 ^ 64
  pub out : OutStands d.out d.board_pass

-- a new desk has one part of the visit's passes, nothing of its own, and may give no duty yet
pub record IsNewDesk (shop : ShopView) (from : VisitView) (d : ShopDeskView) : Type 0 where
  pub shop_is : d.shop ≡ shop
  pub board : d.board_pass ≡ record (boards.second from.board_pass) { held = None }
  pub pool : d.pool_pass ≡ pools.second from.pool_pass
  pub stolen : d.inbox_pass.stolen ≡ []
  pub local : d.local ≡ empty_queue shop.policy 256
  pub stock : d.stock ≡ []
  pub out : d.out ≡ None
  pub left : d.left ≡ 0
  pub given : d.given ≡ 0
  pub ended : d.ended ≡ false

-- so many duties were granted
abbrev pub granted : ShopDeskView → (duties : ℕ) → ShopDeskView
granted d duties = record d { left = duties; given = 0; ended = false }

-- the sandbox is put on the board, and its entry pushed
abbrev pub IsPutBack : (old new : ShopDeskView) → SandboxView → Type 0
IsPutBack old new sandbox =
    new ≡ record old {
      board_pass = putting old.board_pass sandbox.place (word sandbox.turns state.Suspended);
      local = record old.local { entries = old.local.entries ++ entry_of sandbox ∷ [] };
      out = None;
    }

-- a berth of other pages than the pool's is dropped; else the pool's `give` of this call found a slot empty; or it found none, and the berth is in stock, or dropped where that is full
abbrev pub IsGivenBack : PoolView → (old new : pools.PassView) → (stock stock' : List View) → View → Type 0
IsGivenBack p old new stock stock' berth =
    ((berth.pages ≢ p.pages) × (new ≡ old) × (stock' ≡ stock))
    ⊎ (((berth.pages ≡ p.pages) × IsGiven p old new berth Home × (stock' ≡ stock))
    ⊎ (((berth.pages ≡ p.pages) × IsGiven p old new berth (Kept berth) × (length stock < 256) × (stock' ≡ stock ++ berth ∷ []))
    ⊎ ((berth.pages ≡ p.pages) × IsGiven p old new berth (Kept berth) × (256 ≤ length stock) × (stock' ≡ stock))))

-- the answer is put on the board, and the berth goes to the pool or into stock, or is dropped
pub record IsTakenIn (old new : ShopDeskView) (answer : AnswerView) (berth : View) : Type 0 where
  pub put : new.board_pass ≡ putting old.board_pass answer.place (word answer.turns state.Answered)
  pub given_back : IsGivenBack old.shop.pool old.pool_pass new.pool_pass old.stock new.stock berth
  pub others : new ≡ record old { board_pass = new.board_pass; pool_pass = new.pool_pass; stock = new.stock; out = None }
