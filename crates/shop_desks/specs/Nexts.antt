-- How a shop's desk finds its next duty, over the views of its passes, its queue and its stock.
use Rattle.std.specs.Prelude.{◌≡◌, ◌≢◌, ◌⊎◌, ℕ, ◌+◌, ◌<◌, ◌≤◌, true, false, List, [], ◌∷◌, ◌++◌, length, map, Option, Some, None}
use Rattle.std.specs.List.{All}
use Rattle.memory_pool.specs.Passing as pools
use Rattle.memory_pool.specs.Passing.{PoolView, IsTaken}
use Rattle.place_lists.specs.Inboxes as inboxes
use Rattle.place_lists.specs.Inboxes.{having_stolen}
use Rattle.place_lists.specs.Places.{IsPlace}
use Rattle.posted_jobs.specs.Posting.{PostedView}
use Rattle.posted_jobs.specs.Rounds.{Pass, noting_all, Claims, IsRound}
use Rattle.run_queues.specs.Queue.{Queue}
use Rattle.run_queues.specs.Serving.{Takes}
use Rattle.run_queues.specs.declared.entries.Entry.{Entry}
use Rattle.run_queues.specs.declared.policies.Policy.{Policy}
use Rattle.wasm_store.specs.View.{View}
use Rattle.worker_desks.specs.Parts.{unbegun, Serves, asked_by, Miss, note_of}
use Rattle.worker_desks.specs.declared.duties.Duty.{Duty}
use Rattle.worker_desks.specs.declared.duties.Duty.TheVariants.{Begin, Resume}
use Rattle.worker_desks.specs.declared.tasks.Task.{Task}
use Rattle.worker_desks.specs.declared.tasks.Task.TheVariants.{Waiting, Suspended, Answered}
use Rattle.shop_desks.specs.Desks.{ShopDeskView, handed}

-- where a search for a job stands: the passes, the own queue, and the stock
pub record Standing : Type 0 where
  pub board_pass : Pass
  pub pool_pass : pools.PassView
  pub inbox_pass : inboxes.PassView
  pub local : Queue
  pub stock : List View

abbrev pub standing : Pass → pools.PassView → inboxes.PassView → Queue → List View → Standing
standing board_pass pool_pass inbox_pass local stock = record { board_pass = board_pass; pool_pass = pool_pass; inbox_pass = inbox_pass; local = local; stock = stock }

abbrev pub standing_of : ShopDeskView → Standing
standing_of d = standing d.board_pass d.pool_pass d.inbox_pass d.local d.stock

-- A berth.

-- the last berth in stock has so many pages
abbrev pub HasLast : List View → (pages : ℕ) → Type 0
HasLast stock pages = (left : List View) × (berth : View) × (stock ≡ left ++ berth ∷ []) × (berth.pages ≡ pages)

-- the pages of the last berth in stock; where there was none, it is what the pool's `take` of this call gave. None: there was none in stock, and `take` gave none
abbrev pub IsStocked : PoolView → (old new : pools.PassView) → (stock stock' : List View) → Option ℕ → Type 0
IsStocked p old new stock stock' None = (stock ≡ []) × (stock' ≡ []) × IsTaken p old new None
IsStocked p old new stock stock' (Some pages) =
    HasLast stock' pages × (((stock' ≡ stock) × (new ≡ old)) ⊎ ((berth : View) × (stock ≡ []) × (stock' ≡ berth ∷ []) × IsTaken p old new (Some berth)))

abbrev pub StocksUp : PoolView → (berth : Option ℕ) → (old new : Standing) → Type 0
StocksUp p berth old new = IsStocked p old.pool_pass new.pool_pass old.stock new.stock berth × (new ≡ record old { pool_pass = new.pool_pass; stock = new.stock })

-- A request that begins.

-- With a berth of so many pages: a place is stolen from the inbox, and its job claimed as one that waits and fits. None: no place is stolen, or the claim gave none; and none where there is no berth.
abbrev pub IsBegun : (berth : Option ℕ) → (inbox inbox' : inboxes.PassView) → (old new : Pass) → Option PostedView → Type 0
IsBegun None inbox inbox' old new (Some job) = ⊥
IsBegun None inbox inbox' old new None = (inbox' ≡ inbox) × (new ≡ old)
IsBegun (Some room) inbox inbox' old new (Some job) = (place : ℕ) × IsPlace place × (inbox' ≡ having_stolen inbox place) × Claims room place unbegun old new (Some job)
IsBegun (Some room) inbox inbox' old new None =
    ((inbox' ≡ inbox) × (new ≡ old)) ⊎ ((place : ℕ) × IsPlace place × (inbox' ≡ having_stolen inbox place) × Claims room place unbegun old new None)

abbrev pub Begins : (berth : Option ℕ) → (old new : Standing) → Option PostedView → Type 0
Begins berth old new job = IsBegun berth old.inbox_pass new.inbox_pass old.board_pass new.board_pass job × (new ≡ record old { board_pass = new.board_pass; inbox_pass = new.inbox_pass })

-- The desk's own queue.

-- entries were taken out in the order of the policy and dropped, each after a claim that found another word
pub record Drops (policy : Policy) (before after : List Entry) (old new : Pass) : Type 0 where
  pub misses : List Miss
  pub served : Serves policy before (map (λ (m : Miss). m.entry) misses) after
  pub others : All (λ (m : Miss). m.found ≢ asked_by m.entry) misses
  pub noted : new ≡ noting_all old (map note_of misses)

-- behind those that were dropped, the next one's job was claimed; or all were dropped
abbrev pub IsResumed : Policy → (before after : List Entry) → (old new : Pass) → Option PostedView → Type 0
IsResumed policy before after old new None = Drops policy before after old new × (after ≡ [])
IsResumed policy before after old new (Some job) =
    (middle : List Entry) × (between : Pass) × Drops policy before middle old between × ((entry : Entry) × Takes policy middle after entry × Claims 4294967295 entry.place (asked_by entry) between new (Some job))

abbrev pub with_entries : Queue → List Entry → Queue
with_entries q entries = record q { entries = entries }

abbrev pub Resumes : (old new : Standing) → Option PostedView → Type 0
Resumes old new job =
    IsResumed old.local.policy old.local.entries new.local.entries old.board_pass new.board_pass job × (new ≡ record old { board_pass = new.board_pass; local = with_entries old.local new.local.entries })

-- All places.

abbrev pub GoesRound : (berth : Option ℕ) → (old new : Standing) → Option PostedView → Type 0
GoesRound berth old new job = IsRound berth 256 old.board_pass new.board_pass job × (new ≡ record old { board_pass = new.board_pass })

-- The search.

-- the first one gives a job; or it gives none, and the second one is made
abbrev pub OrElse : (first second : (old new : Standing) → Option PostedView → Type 0) → (old new : Standing) → Option PostedView → Type 0
OrElse first second old new None = (between : Standing) × first old between None × second between new None
OrElse first second old new (Some job) = first old new (Some job) ⊎ ((between : Standing) × first old between None × second between new (Some job))

-- with the berth at hand: a request begins; or else one of the own queue goes on; or else all places are looked at
abbrev pub Searches : PoolView → (old new : Standing) → Option PostedView → Type 0
Searches p old new job = (berth : Option ℕ) × (stocked : Standing) × StocksUp p berth old stocked × OrElse (Begins berth) (OrElse Resumes (GoesRound berth)) stocked new job

-- where the own queue is full it comes first
abbrev pub IsSearch : PoolView → (old new : Standing) → Option PostedView → Type 0
IsSearch p old new job =
    ((length old.local.entries < 256) × Searches p old new job) ⊎ ((256 ≤ length old.local.entries) × OrElse Resumes (Searches p) old new job)

-- The duty.

-- a task that waits wants a berth in stock, and none is over
abbrev pub IsReady : Task → List View → Type 0
IsReady (Waiting job) stock = stock ≢ []
IsReady (Suspended sandbox) stock = Unit {0}
IsReady (Answered answer) stock = ⊥

-- a job that waits begins on the last berth in stock; one that was stopped goes on
abbrev pub IsDutyOf : Task → (stock stock' : List View) → Duty → Type 0
IsDutyOf (Waiting job) stock stock' duty = (berth : View) × (stock ≡ stock' ++ berth ∷ []) × (duty ≡ Begin job berth)
IsDutyOf (Suspended sandbox) stock stock' duty = (stock' ≡ stock) × (duty ≡ Resume sandbox)
IsDutyOf (Answered answer) stock stock' duty = ⊥

-- the desk where a search has come to an end
abbrev pub behind : ShopDeskView → Standing → ShopDeskView
behind d s = record d { board_pass = s.board_pass; pool_pass = s.pool_pass; inbox_pass = s.inbox_pass; local = s.local; stock = s.stock }

-- A job was found, and is handed out as the duty. None: no more may be given, and nothing was done; or the search gave none.
abbrev pub IsNext : (old new : ShopDeskView) → Option Duty → Type 0
IsNext old new (Some duty) =
    (job : PostedView) × (found : Standing) × IsSearch old.shop.pool (standing_of old) found (Some job)
    × IsDutyOf job.task found.stock new.stock duty
    × (new.left + 1 ≡ old.left)
    × (new ≡ record (behind old found) { stock = new.stock; out = Some (handed job.request duty); left = new.left; given = old.given + 1; ended = false })
IsNext old new None =
    ((old.left ≡ 0) × (new ≡ record old { ended = true }))
    ⊎ ((found : Standing) × IsSearch old.shop.pool (standing_of old) found None × (new ≡ record (behind old found) { ended = true }))
