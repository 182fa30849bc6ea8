-- What is handed out, and what that leaves of a desk.
use Rattle.std.proofs.Common.{◌≡◌, ◌≢◌, ◌⊎◌, ⊎_elim, inr, ℕ, ◌+◌, ◌<◌, ◌≤◌, true, false, List, [], ◌∷◌, length, Option, Some, None, option_map, refl, sym, ap, subst, ◌∙◌, arith, length-append}
use Rattle.std.proofs.lemmas.List.Elements.{All-pop}
use Rattle.std.specs.List.{All}
use Rattle.job_board.specs.Boarding as boards
use Rattle.job_board.specs.Boarding.{hold}
use Rattle.job_board.specs.declared.words.State.{State}
use Rattle.job_board.specs.declared.words.State.TheVariants as state
use Rattle.job_board.specs.declared.words.Word.{Word}
use Rattle.memory_pool.specs.Passing as pools
use Rattle.place_lists.specs.Inboxes as inboxes
use Rattle.posted_jobs.specs.Posting.{PostedView, BelongsTo, posted}
use Rattle.posted_jobs.specs.Rounds.{Pass, GetsJob}
use Rattle.sandbox_states.proofs.SoundLaws.{stands_at_start}
use Rattle.sandbox_states.specs.Stands.{StandsFor}
use Rattle.sandbox_states.specs.Views.{started}
use Rattle.wasm_meaning.specs.Requests.{Request}
use Rattle.wasm_store.specs.View.{View}
use Rattle.worker_desks.proofs.Finding.{AreOf}
use Rattle.worker_desks.specs.Desks.{Gives}
use Rattle.worker_desks.specs.Duties.{begins_of, HasRoom}
use Rattle.worker_desks.specs.Sharing.{IsEntryOf}
use Rattle.worker_desks.specs.declared.duties.Duty.{Duty}
use Rattle.worker_desks.specs.declared.tasks.Task.{Task}
use Rattle.worker_desks.specs.declared.tasks.Task.TheVariants.{Waiting, Suspended, Answered}
use Rattle.shop_desks.proofs.Searching.{Rests, Finds, search-keeps, search-reaches}
use Rattle.shop_desks.specs.Desks.{HandedView, ShopDeskView, IsDeskOf, HoldsDuty, OutStands, begins_in, handed, many_out, state_of}
use Rattle.shop_desks.specs.Nexts.{Standing, standing_of, HasLast, IsSearch, IsReady, IsDutyOf, IsNext, behind}
use Rattle.shop_desks.specs.Shops.{ShopView}

out-none : (out : Option HandedView) → option_map begins_in out ≡ None → out ≡ None
out-none None e = refl
out-none (Some h) e = let bad : ⊥ = cc in absurd bad

-- no duty is out, as the desk tells it
pub none-out : (d v : ShopDeskView) → d ≡ v → (state_of v).out ≡ None → d.out ≡ None
none-out d v same none = out-none d.out (ap (λ (x : ShopDeskView). option_map begins_in x.out) same ∙ none)

free-then : (out : Option HandedView) (pass : Pass) → out ≡ None → OutStands out pass → pass.held ≡ None
free-then None pass none stands = stands
free-then (Some h) pass none stands = let bad : ⊥ = cc in absurd bad

pub rests-of : (d : ShopDeskView) → IsDeskOf d → d.out ≡ None → Rests 256 d.shop (standing_of d)
rests-of d i none = record {
  board_own = i.board_own;
  free = free-then d.out d.board_pass none i.out;
  pool_own = i.pool_own;
  inbox_own = i.inbox_own;
  policy = i.policy;
  room = i.room;
  entries = i.entries;
  few = omega (arith, i.few);
  stocked = i.stocked;
  kept = i.kept;
}

-- What was found can be handed out.

abbrev FitsLast : (seen : Word) → (pages : ℕ) → List View → Type 0
FitsLast seen pages stock = (seen.state ≡ state.Suspended) ⊎ ((seen.state ≡ state.Waiting) × (room : ℕ) × HasLast stock room × (pages ≤ room))

not-both : (s : State) → s ≡ state.Suspended → s ≡ state.Waiting → ⊥
not-both s a b = cc

not-over : (s : State) → s ≡ state.Answered → s ≡ state.Suspended → ⊥
not-over s a b = cc

not-waits : (s : State) → s ≡ state.Answered → s ≡ state.Waiting → ⊥
not-waits s a b = cc

not-empty : (stock : List View) (room : ℕ) → HasLast stock room → stock ≢ []
not-empty stock room last empty =
    let bad : ⊥ = omega (arith, ap length empty, ap length last.2, length-append last.0 (last.1 ∷ [])) in bad

pub is-ready : (pass pass' : Pass) (place : ℕ) (seen : Word) (request : Request) (task : Task) (stock : List View) → GetsJob pass pass' place seen (posted request task) → FitsLast seen request.program.pages stock → IsReady task stock
is-ready pass pass' place seen request (Waiting job) stock gets fits =
    let waits : seen.state ≡ state.Waiting = sym (ap (λ (w : Word). w.state) gets.told) in
    ⊎_elim (λ stopped. absurd (not-both seen.state stopped waits)) (λ w. not-empty stock w.1 w.2) fits
is-ready pass pass' place seen request (Suspended sandbox) stock gets fits = tt
is-ready pass pass' place seen request (Answered answer) stock gets fits =
    let over : seen.state ≡ state.Answered = sym (ap (λ (w : Word). w.state) gets.told) in
    ⊎_elim (λ stopped. not-over seen.state over stopped) (λ w. not-waits seen.state over w.0) fits

-- the duty is of the place that is held, has room, and stands for the request; the stock that is left has no more berths
pub record Handing (pages : ℕ) (pass' : Pass) (request : Request) (stock stock' : List View) (duty : Duty) : Type 0 where
  pub holds : HoldsDuty (begins_of duty) pass'
  pub room : HasRoom duty
  pub stands : StandsFor request (begins_of duty)
  pub stocked : AreOf pages stock'
  pub fewer : length stock' ≤ length stock

held-so : (pass pass' : Pass) (place at : ℕ) (seen : Word) → pass' ≡ boards.holding pass place seen → at ≡ place → pass'.held ≡ Some (hold at seen)
held-so pass pass' place at seen holds here = ap (λ (p : Pass). p.held) holds ∙ ap (λ (n : ℕ). Some (hold n seen)) (sym here)

pub handing : (pages : ℕ) (pass pass' : Pass) (place : ℕ) (seen : Word) (request : Request) (task : Task) (stock stock' : List View) (duty : Duty) → place < 256 → GetsJob pass pass' place seen (posted request task)
    → BelongsTo request task → FitsLast seen request.program.pages stock → AreOf pages stock → IsDutyOf task stock stock' duty → Handing pages pass' request stock stock' duty
handing pages pass pass' place seen request (Waiting job) stock stock' duty inside gets belongs fits each is =
    let berth = is.0 in
    let P : View → Type 0 = λ (b : View). b.pages ≡ pages in
    let waits : seen.state ≡ state.Waiting = sym (ap (λ (w : Word). w.state) gets.told) in
    let parts = All-pop P stock stock' (Some berth) is.1 each in
    let room : job.request.program.pages ≤ berth.pages =
    ⊎_elim (λ stopped. absurd (not-both seen.state stopped waits))
    (λ w. omega (arith, ap (λ (r : Request). r.program.pages) belongs, parts.1, (All-pop P stock w.2.0 (Some w.2.1) w.2.2 each).1, w.2.3, w.3)) fits in
    subst (λ (d : Duty). Handing pages pass' request stock stock' d) (sym is.2) (record {
      holds = record {
        found = seen;
        held = held-so pass pass' place job.place seen gets.holds gets.stands;
        turns = sym (ap (λ (w : Word). w.turns) gets.told);
        unanswered = λ over. not-waits seen.state over waits;
        inside = omega (arith, inside, gets.stands);
      };
      room = room;
      stands = stands_at_start request (started job berth) belongs refl;
      stocked = parts.0;
      fewer = omega (arith, ap length is.1, length-append stock' (berth ∷ []));
    })
handing pages pass pass' place seen request (Suspended sandbox) stock stock' duty inside gets belongs fits each is =
    let stopped : seen.state ≡ state.Suspended = sym (ap (λ (w : Word). w.state) gets.told) in
    subst (λ (d : Duty). Handing pages pass' request stock stock' d) (sym is.1) (record {
      holds = record {
        found = seen;
        held = held-so pass pass' place sandbox.place seen gets.holds gets.stands;
        turns = sym (ap (λ (w : Word). w.turns) gets.told);
        unanswered = λ over. not-over seen.state over stopped;
        inside = omega (arith, inside, gets.stands);
      };
      room = tt;
      stands = belongs;
      stocked = subst (AreOf pages) (sym is.0) each;
      fewer = omega (arith, ap length is.0);
    })
handing pages pass pass' place seen request (Answered answer) stock stock' duty inside gets belongs fits each is = absurd is

-- What is left of a desk.

-- a duty was given
abbrev pub given_out : ShopDeskView → Standing → (stock : List View) → (stock_room : ℕ) → (out : HandedView) → (left given : ℕ) → ShopDeskView
given_out d s stock stock_room out left given = record (behind d s) { stock = stock; stock_room = stock_room; out = Some out; left = left; given = given; ended = false }

abbrev pub rested : ShopDeskView → Standing → (stock_room : ℕ) → ShopDeskView
rested d s stock_room = record (behind d s) { stock_room = stock_room; ended = true }

-- what a search gave none of
module _ (d : ShopDeskView) (shop : ShopView) (same : shop ≡ d.shop) (i : IsDeskOf d) (none : d.out ≡ None) (s : Standing) where
  abbrev pub SearchesSo : Option PostedView → Type 0
  SearchesSo found = IsSearch shop.pool (standing_of d) s found

  searched : (found : Option PostedView) → SearchesSo found → IsSearch d.shop.pool (standing_of d) s found
  searched found is = subst (λ (x : ShopView). IsSearch x.pool (standing_of d) s found) same is

  pub desk-rested : (stock_room : ℕ) → SearchesSo None → stock_room ≡ d.stock_room → IsDeskOf (rested d s stock_room)
  desk-rested stock_room is room =
      let r = search-keeps d.shop (standing_of d) s (rests-of d i none) (searched None is) in
      record {
        board_own = r.board_own;
        pool_own = r.pool_own;
        inbox_own = r.inbox_own;
        policy = r.policy;
        room = r.room;
        entries = r.entries;
        few = omega (arith, r.few, ap many_out none);
        stocked = r.stocked;
        kept = r.kept;
        memory = omega (arith, i.memory, room);
        counted = i.counted;
        out = subst (λ (o : Option HandedView). OutStands o s.board_pass) (sym none) r.free;
      }

  pub next-rested : (stock_room : ℕ) → SearchesSo None → stock_room ≡ d.stock_room → IsNext d (rested d s stock_room) None
  next-rested stock_room is room = inr (s, searched None is, ap (λ (n : ℕ). rested d s n) room)

  -- a job was found, and is taken apart
  module _ (job : PostedView) (is : SearchesSo (Some job)) (request : Request) (task : Task) (parts : (request ≡ job.request) × (task ≡ job.task)) (belongs : BelongsTo job.request job.task) where
    whole : job ≡ posted request task
    whole = sym (ap (λ (r : Request). posted r task) parts.0 ∙ ap (λ (t : Task). posted job.request t) parts.1)

    found : Finds d.shop s (posted request task)
    found = subst (λ (j : PostedView). Finds d.shop s j) whole (search-reaches d.shop (standing_of d) s job (rests-of d i none) (searched (Some job) is))

    belonging : BelongsTo request task
    belonging = subst (λ (j : PostedView). BelongsTo j.request j.task) whole belongs

    pub found-ready : IsReady task s.stock
    found-ready = is-ready found.from.board_pass s.board_pass found.place found.seen request task s.stock found.gets found.fits

    module _ (stock : List View) (duty : Duty) (of : IsDutyOf task s.stock stock duty) where
      handed-out : Handing d.shop.pool.pages s.board_pass request s.stock stock duty
      handed-out =
          handing d.shop.pool.pages found.from.board_pass s.board_pass found.place found.seen request task s.stock stock duty found.inside found.gets belonging found.fits (subst (λ (x : Standing). AreOf d.shop.pool.pages x.stock) (sym found.is) found.rests.stocked) of

      pub found-stands : StandsFor request (begins_of duty)
      found-stands = handed-out.stands

      module _ (out : HandedView) (told : out ≡ handed request duty) (stock_room : ℕ) (room : stock_room ≡ d.stock_room) (left given : ℕ) (less : left + 1 ≡ d.left) (more : given ≡ d.given + 1) where
        pub desk-given : IsDeskOf (given_out d s stock stock_room out left given)
        desk-given =
            let f = found in
            let h = handed-out in
            let r = f.rests in
            record {
              board_own = subst (boards.IsPassOf d.shop.board) (sym f.gets.holds) r.board_own;
              pool_own = subst (λ (x : Standing). pools.IsPassOf d.shop.pool x.pool_pass) (sym f.is) r.pool_own;
              inbox_own = subst (λ (x : Standing). inboxes.IsPassOf d.shop.inbox x.inbox_pass) (sym f.is) r.inbox_own;
              policy = ap (λ (x : Standing). x.local.policy) f.is ∙ r.policy;
              room = ap (λ (x : Standing). x.local.room) f.is ∙ r.room;
              entries = subst (λ (x : Standing). All (IsEntryOf 256) x.local.entries) (sym f.is) r.entries;
              few = omega (arith, r.few, ap (λ (x : Standing). length x.local.entries) f.is);
              stocked = h.stocked;
              kept = omega (arith, h.fewer, ap (λ (x : Standing). length x.stock) f.is, r.kept);
              memory = omega (arith, i.memory, room);
              counted = omega (arith, i.counted, less, more);
              out = subst (λ (o : HandedView). HoldsDuty (begins_in o) s.board_pass) (sym told) h.holds;
            }

        pub next-given : IsNext d (given_out d s stock stock_room out left given) (Some duty)
        next-given = (
          posted request task,
          s,
          subst (λ (j : PostedView). IsSearch d.shop.pool (standing_of d) s (Some j)) whole (searched (Some job) is),
          of,
          less,
          ap (λ (o : HandedView). given_out d s stock stock_room o left given) told
              ∙ ap (λ (n : ℕ). given_out d s stock n (handed request duty) left given) room
              ∙ ap (λ (n : ℕ). given_out d s stock d.stock_room (handed request duty) left n) more,
        )

        pub gives-given : Gives (state_of d) (state_of (given_out d s stock stock_room out left given)) duty
        gives-given = record { bound = omega (arith, less); given = more; ended = refl; out = ap (λ (o : HandedView). Some (begins_in o)) told; quantum = refl; room = handed-out.room }
