-- What a search leaves of a desk: fewer turns, room in its queue and its stock, and the rest as it was.
use Rattle.std.proofs.Common.{◌≡◌, ◌⊎◌, ⊎_elim, ℕ, ◌+◌, ◌*◌, ◌<◌, ◌≤◌, true, false, List, [], ◌∷◌, ◌++◌, length, slice_get, Option, Some, None, option_map, refl, sym, ap, subst, ◌∙◌, arith}
use Rattle.std.proofs.lemmas.List.{append-nil}
use Rattle.std.proofs.lemmas.List.Elements.{All-nil}
use Rattle.std.specs.List.{All}
use Rattle.job_board.specs.Boarding as boards
use Rattle.job_board.specs.Boarding.{BoardView, places_of, note, noting, hold, holding}
use Rattle.job_board.specs.Words.{rank, word}
use Rattle.job_board.specs.declared.holders.Hold.{Hold}
use Rattle.job_board.specs.declared.holders.Note.{Note}
use Rattle.job_board.specs.declared.holders.Terms.{Terms}
use Rattle.job_board.specs.declared.words.State.TheVariants as state
use Rattle.job_board.specs.declared.words.Word.{Word}
use Rattle.memory_pool.specs.Passing as pools
use Rattle.run_queues.specs.Drawing.{Drawing}
use Rattle.run_queues.specs.Queue.{Queue}
use Rattle.run_queues.specs.Serving.{Takes}
use Rattle.run_queues.specs.declared.entries.Entry.{Entry}
use Rattle.run_queues.specs.declared.policies.Policy.{Policy}
use Rattle.sandbox_states.specs.Views.{AdmittedView, SandboxView, started}
use Rattle.wasm_store.specs.View.{View}
use Rattle.worker_desks.proofs.Entries.{all-left, one-less, all-behind, no-more}
use Rattle.worker_desks.proofs.Finding.{Noted, noted-nothing, noted-on, noted-drops, noted-passes, noted-look, Claimed, claimed-suspended, claimed-waiting, at-place, fits-pool, AreOf, KeepsPass, kept-berth, has-berth, NoneBegins, cannot-begin}
use Rattle.worker_desks.proofs.Notes.{greatest-append, TellsLess, tells-same, tells-more, left-falls, begun-grows, answered-grows, got-less, begun-more, left-most}
use Rattle.worker_desks.specs.Desks.{DeskView, Gives, Closes}
use Rattle.worker_desks.specs.Duties.{begins_of, HasRoom}
use Rattle.worker_desks.specs.Noted.{greatest, turns_in, rank_in, due_of, notes_due, turns_left, begun_places, answered_places, most_turns}
use Rattle.worker_desks.specs.Parts.{Pass, Begins, Resumes, IsResumed, IsTakenOver, IsBegun, GetsTask, unbegun, asked_by, noting_all, Drops}
use Rattle.worker_desks.specs.Sharing.{SharedView, state_of, IsShared, IsEntryOf, HoldsDuty, OutStands}
use Rattle.worker_desks.specs.Tasks.{FitsIn}
use Rattle.worker_desks.specs.declared.duties.Duty.{Duty}
use Rattle.worker_desks.specs.declared.duties.Duty.TheVariants.{Begin, Resume}
use Rattle.worker_desks.specs.declared.tasks.Task.{Task}
use Rattle.worker_desks.specs.declared.tasks.Task.TheVariants.{Waiting, Suspended}

-- What is noted, and what is due.

tells-within : (xs more ys zs : List Note) → TellsLess ys zs → TellsLess (xs ++ ys) ((xs ++ more) ++ zs)
tells-within xs more ys zs less = record {
  turns = λ p. omega (arith, greatest-append turns_in p xs ys, greatest-append turns_in p (xs ++ more) zs, greatest-append turns_in p xs more, less.turns p);
  ranks = λ p. omega (arith, greatest-append rank_in p xs ys, greatest-append rank_in p (xs ++ more) zs, greatest-append rank_in p xs more, less.ranks p);
}

tells-nothing : (ys : List Note) → TellsLess [] ys
tells-nothing ys = record { turns = λ p. omega arith; ranks = λ p. omega arith }

pub due-free : (pass : Pass) → pass.held ≡ None → notes_due pass ≡ pass.notes
due-free pass free = ap (λ (h : Option Hold). pass.notes ++ due_of h) free ∙ append-nil pass.notes

pub due-noted : (old new : Pass) → Noted old new → TellsLess (notes_due old) (notes_due new)
due-noted old new noted =
    subst (λ (p : Pass). TellsLess (notes_due old) (notes_due p)) (sym noted.is) (tells-within old.notes noted.more (due_of old.held) (due_of old.held) (tells-same (due_of old.held)))

due-claimed : (places : ℕ) (old new : Pass) (s : SandboxView) → old.held ≡ None → Claimed places old new s → TellsLess (notes_due old) (notes_due new)
due-claimed places old new s free c =
    let due : List Note = due_of (Some (hold s.place c.found)) in
    subst (λ (p : Pass). TellsLess (notes_due old) (notes_due p)) (sym c.is)
    (tells-within old.notes c.more (due_of old.held) due (subst (λ (h : Option Hold). TellsLess (due_of h) due) (sym free) (tells-nothing due)))

left-claimed : (places : ℕ) (old new : Pass) (s : SandboxView) → old.held ≡ None → Claimed places old new s → turns_left places (notes_due new) < turns_left places (notes_due old)
left-claimed places old new s free c =
    let xs : List Note = old.notes ++ c.more in
    let step = got-less places s.place xs c.found c.inside c.past (omega (arith, c.turns, c.few)) in
    let before = left-falls places old.notes xs (tells-more old.notes c.more) in
    let same : turns_left places (notes_due old) ≡ turns_left places old.notes = ap (turns_left places) (due-free old free) in
    let now : turns_left places (notes_due new) ≡ turns_left places (xs ++ note s.place (word (c.found.turns + 1) state.Suspended) ∷ []) = ap (λ (p : Pass). turns_left places (notes_due p)) c.is in
    omega (arith, step, before, same, now)

begun-waiting : (places : ℕ) (old new : Pass) (place : ℕ) (job : AdmittedView) → old.held ≡ None → old.terms.fixed ≡ true → place < places → GetsTask old new place unbegun (Waiting job)
    → begun_places places (notes_due old) < begun_places places (notes_due new)
begun-waiting places old new place job free fixed inside gets =
    let step = begun-more places place old.notes unbegun inside (gets.past fixed) refl in
    let same : begun_places places (notes_due old) ≡ begun_places places old.notes = ap (begun_places places) (due-free old free) in
    let now : begun_places places (notes_due new) ≡ begun_places places (old.notes ++ note place (word (0 + 1) state.Suspended) ∷ []) = ap (λ (p : Pass). begun_places places (notes_due p)) gets.holds in
    omega (arith, step, same, now)

-- The invariant.

pub out-none : (out : Option Duty) → option_map begins_of out ≡ None → out ≡ None
out-none None e = refl
out-none (Some duty) e = let bad : ⊥ = cc in absurd bad

free-of : (out : Option Duty) (pass : Pass) → OutStands out pass → out ≡ None → pass.held ≡ None
free-of None pass stands none = stands
free-of (Some duty) pass stands none = let bad : ⊥ = cc in absurd bad

pub free-now : (d : SharedView) → IsShared d → d.out ≡ None → d.board_pass.held ≡ None
free-now d i none = free-of d.out d.board_pass i.out none

fixed-now : (d : SharedView) → IsShared d → d.board_pass.terms.fixed ≡ true
fixed-now d i = ap (λ (t : Terms Task). t.fixed) i.board_own.1 ∙ i.fixed

holds-duty : (places : ℕ) (old new : Pass) (s : SandboxView) → old.id.words ≡ places → Claimed places old new s → HoldsDuty s new
holds-duty places old new s words c =
    subst (HoldsDuty s) (sym c.is) (record {
      found = c.found;
      held = refl;
      turns = c.turns;
      unanswered = c.unanswered;
      few = c.few;
      inside = omega (arith, c.inside, words);
      past = c.past;
      first = c.first;
      first_is = c.first_is;
      owned = c.owned;
    })

-- how many berths there is memory for is no part of it
pub shared-roomy : (d : SharedView) (n : ℕ) → IsShared d → IsShared (record d { stock_room = n })
shared-roomy d n i = record {
  board_own = i.board_own;
  fixed = i.fixed;
  pool_own = i.pool_own;
  queue_own = i.queue_own;
  drawn = i.drawn;
  roomy = i.roomy;
  stocked = i.stocked;
  entries = i.entries;
  room = i.room;
  out = i.out;
  waiting = i.waiting;
  kept = i.kept;
  counted = i.counted;
}

-- a desk with a duty out, and one that found none
abbrev pub handed : (d : SharedView) (board_pass : Pass) (pool_pass : pools.PassView) (queue_pass : Drawing) (local : Queue) (stock : List View) (duty : Duty) → SharedView
handed d board_pass pool_pass queue_pass local stock duty =
    record d { board_pass = board_pass; pool_pass = pool_pass; queue_pass = queue_pass; local = local; stock = stock; out = Some duty; given = d.given + 1; ended = false }

abbrev pub rested : (d : SharedView) (board_pass : Pass) (pool_pass : pools.PassView) (queue_pass : Drawing) (local : Queue) (stock : List View) → SharedView
rested d board_pass pool_pass queue_pass local stock =
    record d { board_pass = board_pass; pool_pass = pool_pass; queue_pass = queue_pass; local = local; stock = stock; ended = true }

-- what is left of a desk's own
record Keeps (d : SharedView) (pool_pass : pools.PassView) (queue_pass : Drawing) (local : Queue) (stock : List View) : Type 0 where
  pool : KeepsPass d.pool d.pool_pass pool_pass
  queue : queue_pass.id ≡ d.queue_pass.id
  stocked : AreOf d.pool.pages stock
  few : (k : ℕ) → length d.stock ≤ k + 1 → length stock ≤ k + 1
  entries : All (IsEntryOf (places_of d.board)) local.entries
  room : local.room ≡ d.local.room

shared-handed : (d : SharedView) (board_pass : Pass) (pool_pass : pools.PassView) (queue_pass : Drawing) (local : Queue) (stock : List View) (duty : Duty) → IsShared d → d.out ≡ None → Claimed (places_of d.board) d.board_pass board_pass (begins_of duty)
    → Keeps d pool_pass queue_pass local stock → length local.entries ≤ begun_places (places_of d.board) (notes_due board_pass) → IsShared (handed d board_pass pool_pass queue_pass local stock duty)
shared-handed d board_pass pool_pass queue_pass local stock duty i none c k crowd =
    let places : ℕ = places_of d.board in
    let free = free-now d i none in
    let more = due-claimed places d.board_pass board_pass (begins_of duty) free c in
    let one : length (due_of board_pass.held) ≡ 1 = ap (λ (p : Pass). length (due_of p.held)) c.is in
    record {
      board_own = (ap (λ (p : Pass). p.id) c.is ∙ i.board_own.0, ap (λ (p : Pass). p.terms) c.is ∙ i.board_own.1);
      fixed = i.fixed;
      pool_own = k.pool.0;
      queue_own = k.queue ∙ i.queue_own;
      drawn = i.drawn;
      roomy = i.roomy;
      stocked = k.stocked;
      entries = k.entries;
      room = k.room ∙ i.room;
      out = holds-duty places d.board_pass board_pass (begins_of duty) (ap (λ t. t.words) i.board_own.0) c;
      waiting = omega (arith, crowd, one);
      kept = k.few (answered_places places (notes_due board_pass)) (omega (arith, i.kept, answered-grows places _ _ more));
      counted = omega (arith, i.counted, left-claimed places d.board_pass board_pass (begins_of duty) free c);
    }

gives-handed : (d : SharedView) (board_pass : Pass) (pool_pass : pools.PassView) (queue_pass : Drawing) (local : Queue) (stock : List View) (duty : Duty) → IsShared d → d.out ≡ None → Claimed (places_of d.board) d.board_pass board_pass (begins_of duty)
    → HasRoom duty → Gives (state_of d) (state_of (handed d board_pass pool_pass queue_pass local stock duty)) duty
gives-handed d board_pass pool_pass queue_pass local stock duty i none c room = record {
  bound = left-claimed (places_of d.board) d.board_pass board_pass (begins_of duty) (free-now d i none) c;
  given = refl;
  ended = refl;
  out = refl;
  quantum = refl;
  room = room;
}

-- no duty is out, as the desk tells it
pub none-out : (d v : SharedView) → d ≡ v → (state_of v).out ≡ None → d.out ≡ None
none-out d v same none = out-none d.out (ap (λ (x : SharedView). option_map begins_of x.out) same ∙ none)

-- A request that begins.

begins-place : (d : SharedView) → IsShared d → (place : ℕ) (number : ℕ) → Some place ≡ slice_get d.queue.places number → place < places_of d.board
begins-place d i place number is = at-place (λ (p : ℕ). p < places_of d.board) d.queue.places number place i.drawn (sym is)

pub shared-begins : (d : SharedView) (board_pass : Pass) (pool_pass : pools.PassView) (queue_pass : Drawing) (stock : List View) (duty : Duty) → IsShared d → d.out ≡ None
    → Begins d.pool d.pool_pass pool_pass d.stock stock d.queue d.queue_pass queue_pass d.board_pass board_pass (Some duty) → IsShared (handed d board_pass pool_pass queue_pass d.local stock duty)
shared-begins d board_pass pool_pass queue_pass stock (Resume s) i none is = absurd is
shared-begins d board_pass pool_pass queue_pass stock (Begin job berth) i none is =
    let places : ℕ = places_of d.board in
    let free = free-now d i none in
    let fixed = fixed-now d i in
    let place : ℕ = is.1.0 in
    let gets = is.1.2 in
    let inside = begins-place d i place is.1.1.number is.1.1.is in
    let has = has-berth d.pool d.pool_pass pool_pass d.stock stock berth i.stocked is.0 in
    let begun = begun-waiting places d.board_pass board_pass place job free fixed inside gets in
    shared-handed d board_pass pool_pass queue_pass d.local stock (Begin job berth) i none
    (claimed-waiting places d.board_pass board_pass place job berth fixed inside gets)
    (record {
      pool = kept-berth d.pool d.pool_pass pool_pass d.stock stock (Some berth) i.pool_own is.0;
      queue = ap (λ (q : Drawing). q.id) is.1.1.noted;
      stocked = has.others;
      few = λ n few. omega (arith, has.fewer, few);
      entries = i.entries;
      room = refl;
    })
    (omega (arith, i.waiting, begun))

pub gives-begins : (d : SharedView) (board_pass : Pass) (pool_pass : pools.PassView) (queue_pass : Drawing) (stock : List View) (duty : Duty) → IsShared d → d.out ≡ None
    → Begins d.pool d.pool_pass pool_pass d.stock stock d.queue d.queue_pass queue_pass d.board_pass board_pass (Some duty) → Gives (state_of d) (state_of (handed d board_pass pool_pass queue_pass d.local stock duty)) duty
gives-begins d board_pass pool_pass queue_pass stock (Resume s) i none is = absurd is
gives-begins d board_pass pool_pass queue_pass stock (Begin job berth) i none is =
    let places : ℕ = places_of d.board in
    let fixed = fixed-now d i in
    let place : ℕ = is.1.0 in
    let inside = begins-place d i place is.1.1.number is.1.1.is in
    let has = has-berth d.pool d.pool_pass pool_pass d.stock stock berth i.stocked is.0 in
    let roomy : All (FitsIn d.pool.pages) d.board_pass.terms.jobs = subst (λ (t : Terms Task). All (FitsIn d.pool.pages) t.jobs) (sym i.board_own.1) i.roomy in
    let fits = fits-pool d.pool.pages d.board_pass board_pass place job fixed roomy is.1.2 in
    gives-handed d board_pass pool_pass queue_pass d.local stock (Begin job berth) i none
    (claimed-waiting places d.board_pass board_pass place job berth fixed inside is.1.2)
    (omega (arith, fits, has.pages))

-- the same for a duty that is remembered
pub keeps-begun : (d : SharedView) (board_pass : Pass) (pool_pass : pools.PassView) (queue_pass : Drawing) (stock : List View) (duty told : Duty) → told ≡ duty → IsShared d → d.out ≡ None
    → Begins d.pool d.pool_pass pool_pass d.stock stock d.queue d.queue_pass queue_pass d.board_pass board_pass (Some duty) → IsShared (handed d board_pass pool_pass queue_pass d.local stock told)
keeps-begun d board_pass pool_pass queue_pass stock duty told same i none is =
    subst (λ (x : Duty). IsShared (handed d board_pass pool_pass queue_pass d.local stock x)) (sym same) (shared-begins d board_pass pool_pass queue_pass stock duty i none is)

pub gives-begun : (d : SharedView) (board_pass : Pass) (pool_pass : pools.PassView) (queue_pass : Drawing) (stock : List View) (duty told : Duty) → told ≡ duty → IsShared d → d.out ≡ None
    → Begins d.pool d.pool_pass pool_pass d.stock stock d.queue d.queue_pass queue_pass d.board_pass board_pass (Some duty) → Gives (state_of d) (state_of (handed d board_pass pool_pass queue_pass d.local stock told)) duty
gives-begun d board_pass pool_pass queue_pass stock duty told same i none is =
    subst (λ (x : Duty). Gives (state_of d) (state_of (handed d board_pass pool_pass queue_pass d.local stock x)) duty) (sym same) (gives-begins d board_pass pool_pass queue_pass stock duty i none is)

-- A request that goes on.

record Resumed (d : SharedView) (board_pass : Pass) (after : List Entry) (s : SandboxView) : Type 0 where
  claimed : Claimed (places_of d.board) d.board_pass board_pass s
  entries : All (IsEntryOf (places_of d.board)) after
  fewer : (k : ℕ) → length d.local.entries ≤ k + 1 → length after ≤ k

-- the next of the desk's own queue
resumed-own : (d : SharedView) (pass board_pass : Pass) (after : List Entry) (s : SandboxView) → IsShared d → Noted d.board_pass pass → s.turns ≤ 1099511627776
    → IsResumed d.local.policy d.local.entries after pass board_pass (Some s) → Resumed d board_pass after s
resumed-own d pass board_pass after s i noted few is =
    let places : ℕ = places_of d.board in
    let policy : Policy = d.local.policy in
    let drops = is.2 in
    let entry : Entry = is.3.0 in
    let takes = is.3.1 in
    let served = drops.served in
    let middle = all-behind (IsEntryOf places) policy d.local.entries _ is.0 served i.entries in
    let here = at-place (IsEntryOf places) is.0 takes.at entry middle takes.is in
    let count = one-less policy is.0 after entry takes in
    let most = no-more policy d.local.entries _ is.0 served in
    record {
      claimed = claimed-suspended places d.board_pass is.1 board_pass entry.place (asked_by entry) s (noted-on d.board_pass pass is.1 noted (noted-drops policy d.local.entries is.0 pass is.1 drops)) (fixed-now d i) here.inside few is.3.2;
      entries = all-left (IsEntryOf places) policy is.0 after entry takes middle;
      fewer = λ k low. omega (arith, count, most, low);
    }

-- one of any place, where the own queue has none
resumed-any : (d : SharedView) (pass between board_pass : Pass) (after : List Entry) (s : SandboxView) → IsShared d → Noted d.board_pass pass → s.turns ≤ 1099511627776
    → IsResumed d.local.policy d.local.entries after pass between None → IsTakenOver (places_of d.board) between board_pass (Some s) → Resumed d board_pass after s
resumed-any d pass between board_pass after s i noted few own any =
    let places : ℕ = places_of d.board in
    let first = noted-on d.board_pass pass between noted (noted-drops d.local.policy d.local.entries after pass between own.0) in
    let second = noted-on d.board_pass between any.2 first (noted-passes any.0 between any.2 any.3) in
    let third = noted-on d.board_pass any.2 (noting any.2 any.0 any.4.0) second (noted-look any.2 any.0 any.4.0) in
    let none = ap length own.1 in
    record {
      claimed = claimed-suspended places d.board_pass (noting any.2 any.0 any.4.0) board_pass any.0 any.4.0 s third (fixed-now d i) any.1 few any.4.2;
      entries = subst (All (IsEntryOf places)) (sym own.1) (All-nil (IsEntryOf places));
      fewer = λ k low. omega (arith, none);
    }

resumed : (d : SharedView) (pass board_pass : Pass) (after : List Entry) (s : SandboxView) → IsShared d → Noted d.board_pass pass → s.turns ≤ 1099511627776
    → Resumes d.local.policy d.local.entries after (places_of d.board) pass board_pass (Some s) → Resumed d board_pass after s
resumed d pass board_pass after s i noted few is =
    ⊎_elim (λ own. resumed-own d pass board_pass after s i noted few own) (λ t. resumed-any d pass t.0 board_pass after s i noted few t.1 t.2) is

module _ (d : SharedView) (pass board_pass : Pass) (pool_pass : pools.PassView) (queue_pass : Drawing) (local : Queue) (stock : List View) where
  -- no request begins before it
  abbrev pub BeginsNone : Type 0
  BeginsNone = Begins d.pool d.pool_pass pool_pass d.stock stock d.queue d.queue_pass queue_pass d.board_pass pass None

  abbrev pub ResumesSo : Option SandboxView → Type 0
  ResumesSo found = Resumes d.local.policy d.local.entries local.entries (places_of d.board) pass board_pass found

  none-begun : IsShared d → BeginsNone → NoneBegins d.pool d.pool_pass pool_pass d.stock stock d.queue_pass queue_pass d.board_pass pass
  none-begun i is = cannot-begin d.pool d.pool_pass pool_pass d.stock stock d.queue d.queue_pass queue_pass d.board_pass pass i.pool_own i.stocked is

  pub shared-resumes : (s : SandboxView) → IsShared d → d.out ≡ None → s.turns ≤ 1099511627776 → BeginsNone → ResumesSo (Some s) → local.room ≡ d.local.room → IsShared (handed d board_pass pool_pass queue_pass local stock (Resume s))
  shared-resumes s i none few begins resumes room =
      let places : ℕ = places_of d.board in
      let no = none-begun i begins in
      let r = resumed d pass board_pass local.entries s i no.noted few resumes in
      let free = free-now d i none in
      let more = begun-grows places _ _ (due-claimed places d.board_pass board_pass s free r.claimed) in
      shared-handed d board_pass pool_pass queue_pass local stock (Resume s) i none r.claimed
      (record { pool = no.pool; queue = no.queue.0; stocked = no.stocked; few = no.few; entries = r.entries; room = room })
      (omega (arith, more, r.fewer (begun_places places (notes_due d.board_pass)) (omega (arith, i.waiting))))

  pub gives-resumes : (s : SandboxView) → IsShared d → d.out ≡ None → s.turns ≤ 1099511627776 → BeginsNone → ResumesSo (Some s) → Gives (state_of d) (state_of (handed d board_pass pool_pass queue_pass local stock (Resume s))) (Resume s)
  gives-resumes s i none few begins resumes =
      let r = resumed d pass board_pass local.entries s i (none-begun i begins).noted few resumes in
      gives-handed d board_pass pool_pass queue_pass local stock (Resume s) i none r.claimed tt

  pub keeps-resumed : (s : SandboxView) (told : Duty) → told ≡ Resume s → IsShared d → d.out ≡ None → s.turns ≤ 1099511627776 → BeginsNone → ResumesSo (Some s) → local.room ≡ d.local.room
      → IsShared (handed d board_pass pool_pass queue_pass local stock told)
  keeps-resumed s told same i none few begins resumes room =
      subst (λ (x : Duty). IsShared (handed d board_pass pool_pass queue_pass local stock x)) (sym same) (shared-resumes s i none few begins resumes room)

  pub gives-resumed : (s : SandboxView) (told : Duty) → told ≡ Resume s → IsShared d → d.out ≡ None → s.turns ≤ 1099511627776 → BeginsNone → ResumesSo (Some s)
      → Gives (state_of d) (state_of (handed d board_pass pool_pass queue_pass local stock told)) (Resume s)
  gives-resumed s told same i none few begins resumes =
      subst (λ (x : Duty). Gives (state_of d) (state_of (handed d board_pass pool_pass queue_pass local stock x)) (Resume s)) (sym same) (gives-resumes s i none few begins resumes)

  -- Nothing is found.

  rest-noted : IsShared d → BeginsNone → ResumesSo None → Noted d.board_pass board_pass
  rest-noted i begins is =
      let first = noted-on d.board_pass pass is.0 (none-begun i begins).noted (noted-drops d.local.policy d.local.entries local.entries pass is.0 is.1.0) in
      noted-on d.board_pass is.0 board_pass first (noted-passes (places_of d.board) is.0 board_pass is.2)

  out-still : (out : Option Duty) (new : Pass) → out ≡ None → new.held ≡ None → OutStands out new
  out-still None new none free = free
  out-still (Some duty) new none free = let bad : ⊥ = cc in absurd bad

  pub shared-rested : IsShared d → d.out ≡ None → BeginsNone → ResumesSo None → local.room ≡ d.local.room → IsShared (rested d board_pass pool_pass queue_pass local stock)
  shared-rested i none begins is room =
      let places : ℕ = places_of d.board in
      let no = none-begun i begins in
      let noted = rest-noted i begins is in
      let more = due-noted d.board_pass board_pass noted in
      let free : board_pass.held ≡ None = ap (λ (p : Pass). p.held) noted.is ∙ free-now d i none in
      let nothing : length (due_of board_pass.held) ≡ 0 = ap (λ (h : Option Hold). length (due_of h)) free in
      let empty : length local.entries ≡ 0 = ap length is.1.1 in
      record {
        board_own = (ap (λ (p : Pass). p.id) noted.is ∙ i.board_own.0, ap (λ (p : Pass). p.terms) noted.is ∙ i.board_own.1);
        fixed = i.fixed;
        pool_own = no.pool.0;
        queue_own = no.queue.0 ∙ i.queue_own;
        drawn = i.drawn;
        roomy = i.roomy;
        stocked = no.stocked;
        entries = subst (All (IsEntryOf places)) (sym is.1.1) (All-nil (IsEntryOf places));
        room = room ∙ i.room;
        out = out-still d.out board_pass none free;
        waiting = omega (arith, nothing, empty);
        kept = no.few (answered_places places (notes_due board_pass)) (omega (arith, i.kept, answered-grows places _ _ more));
        counted = omega (arith, i.counted, left-falls places _ _ more);
      }

  pub closes-rested : IsShared d → d.out ≡ None → BeginsNone → ResumesSo None → Closes (state_of d) (state_of (rested d board_pass pool_pass queue_pass local stock))
  closes-rested i none begins is = record {
    bound = left-falls (places_of d.board) _ _ (due-noted d.board_pass board_pass (rest-noted i begins is));
    given = refl;
    ended = refl;
    out = ap (option_map begins_of) none;
    quantum = refl;
  }
