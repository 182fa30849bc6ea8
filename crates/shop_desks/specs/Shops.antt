-- What contracts see of a shop and of its visits.
use Rattle.std.specs.Prelude.{◌≡◌, ℕ, false, List, [], map, None}
use Rattle.job_board.specs.Boarding as boards
use Rattle.job_board.specs.Boarding.{BoardView, places_of}
use Rattle.memory_pool.specs.Passing as pools
use Rattle.memory_pool.specs.Passing.{PoolView, slots_of}
use Rattle.place_lists.specs.Inboxes as inboxes
use Rattle.place_lists.specs.Inboxes.{InboxView}
use Rattle.place_lists.specs.Vacating as vacancies
use Rattle.place_lists.specs.Vacating.{QueueView}
use Rattle.posted_jobs.specs.Posting.{PostedView}
use Rattle.run_queues.specs.declared.policies.Policy.{Policy}
use Rattle.tenant_meters.specs.Metered as meters
use Rattle.tenant_meters.specs.Metered.{MeterView}
use Rattle.tenant_meters.specs.Visiting as visits
use Rattle.worker_desks.specs.declared.settings.Settings.{Settings}

-- a board of 256 places, which serve one request after another
abbrev pub IsVacantBoard : BoardView PostedView → Type 0
IsVacantBoard board = (board.terms.fixed ≡ false) × (places_of board ≡ 256)

-- the shared objects, and how workers serve them
pub record ShopView : Type 0 where
  pub board : BoardView PostedView
  pub pool : PoolView
  pub inbox : InboxView
  pub vacancies : QueueView
  pub meters : List MeterView
  pub quantum : ℕ
  pub policy : Policy

-- a pass of each of them
pub record VisitView : Type 0 where
  pub board_pass : boards.PassView PostedView
  pub pool_pass : pools.PassView
  pub inbox_pass : inboxes.PassView
  pub vacancy_pass : vacancies.PassView
  pub meter_visit : List meters.PassView

-- the shop serves by these settings
pub record IsSetBy (settings : Settings) (shop : ShopView) : Type 0 where
  pub quantum : shop.quantum ≡ settings.quantum
  pub policy : shop.policy ≡ settings.policy
  pub berths : slots_of shop.pool ≡ settings.berths
  pub pages : shop.pool.pages ≡ settings.pages

-- each pass is of its object; no place of the board is held, and none is out of the queue of vacant places
pub record IsVisitOf (shop : ShopView) (visit : VisitView) : Type 0 where
  pub board : boards.IsPassOf shop.board visit.board_pass
  pub free : visit.board_pass.held ≡ None
  pub pool : pools.IsPassOf shop.pool visit.pool_pass
  pub inbox : inboxes.IsPassOf shop.inbox visit.inbox_pass
  pub vacancies : vacancies.IsPassOf shop.vacancies visit.vacancy_pass
  pub out : visit.vacancy_pass.out ≡ []
  pub meters : visits.IsVisitOf shop.meters visit.meter_visit

-- the first visit has the first pass of each, and has done nothing
pub record IsFirstVisit (shop : ShopView) (visit : VisitView) : Type 0 where
  pub board : visit.board_pass ≡ boards.first_pass shop.board
  pub pool : visit.pool_pass ≡ pools.first_pass shop.pool
  pub pushed : visit.inbox_pass.pushed ≡ []
  pub stolen : visit.inbox_pass.stolen ≡ []
  pub meters : visit.meter_visit ≡ map meters.first_pass shop.meters

-- a second visit has one part of the board's and the pool's pass; it has seen as much of the meters, and has done nothing
pub record IsSecondVisit (from visit : VisitView) : Type 0 where
  pub board : visit.board_pass ≡ boards.second from.board_pass
  pub pool : visit.pool_pass ≡ pools.second from.pool_pass
  pub pushed : visit.inbox_pass.pushed ≡ []
  pub stolen : visit.inbox_pass.stolen ≡ []
  pub meters : visit.meter_visit ≡ map meters.second from.meter_visit

-- what is left of the first one
abbrev pub less_one : VisitView → VisitView
less_one visit = record visit { board_pass = boards.apart visit.board_pass; pool_pass = pools.apart visit.pool_pass }
