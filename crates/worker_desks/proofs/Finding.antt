-- What a search for a duty comes to, whichever of its parts it was that found one.
use Rattle.std.proofs.Common.{◌≡◌, ◌⊎◌, ⊎_elim, ℕ, ◌+◌, ◌<◌, ◌≤◌, true, List, [], ◌∷◌, ◌++◌, length, map, slice_get, slice_index, option_to_list, Option, Some, None, refl, sym, ap, subst, ◌∙◌, arith, length-append}
use Rattle.std.proofs.lemmas.List.{append-nil}
use Rattle.std.proofs.lemmas.List.Elements.{All-nil, All-push, All-pop, All-contains}
use Rattle.std.proofs.lemmas.Option.{slice_get_within, get_or_from_slice_get}
use Rattle.std.specs.List.{All}
use Rattle.job_board.specs.Boarding.{BoardView, PassView, note, noting, holding, RisesPast}
use Rattle.job_board.specs.Words.{rank, word}
use Rattle.job_board.specs.declared.holders.Note.{Note}
use Rattle.job_board.specs.declared.holders.Terms.{Terms}
use Rattle.job_board.specs.declared.words.State.TheVariants as state
use Rattle.job_board.specs.declared.words.Word.{Word}
use Rattle.memory_pool.specs.Passing as pools
use Rattle.memory_pool.specs.Passing.{PoolView, IsTaken, after}
use Rattle.memory_pool.specs.declared.movers.Try.{Try}
use Rattle.run_queues.specs.Drawing.{CommonView, Drawing}
use Rattle.run_queues.specs.Serving.{Takes}
use Rattle.run_queues.specs.declared.entries.Entry.{Entry}
use Rattle.run_queues.specs.declared.policies.Policy.{Policy}
use Rattle.sandbox_states.proofs.SoundLaws.{in_turns_at_start}
use Rattle.sandbox_states.specs.Views.{AdmittedView, SandboxView, started}
use Rattle.wasm_store.specs.View.{View, empty}
use Rattle.worker_desks.proofs.Walks.{noting-twice, noting-nothing}
use Rattle.worker_desks.specs.Parts.{Pass, IsBerth, IsDrawn, GetsTask, FindsOther, IsBegun, unbegun, Begins, Drops, note_of, noting_all, asked_by, PassesOver, notes_from}
use Rattle.worker_desks.specs.Tasks.{FitsIn, IsTaskOf, IsNextOf, admitted_as}
use Rattle.worker_desks.specs.declared.duties.Duty.TheVariants.{Begin, Resume}
use Rattle.worker_desks.specs.declared.tasks.Task.{Task}
use Rattle.worker_desks.specs.declared.tasks.Task.TheVariants.{Waiting, Suspended, Answered}

-- a pass that has looked and missed: it has more notes, and nothing else of it is changed
pub record Noted (old new : Pass) : Type 0 where
  pub more : List Note
  pub is : new ≡ noting_all old more

pub noted-nothing : (pass : Pass) → Noted pass pass
noted-nothing pass = record { more = []; is = sym (noting-nothing pass) }

pub noted-on : (a b c : Pass) → Noted a b → Noted b c → Noted a c
noted-on a b c first second = record {
  more = first.more ++ second.more;
  is = second.is ∙ (ap (λ (p : Pass). noting_all p second.more) first.is ∙ noting-twice a first.more second.more);
}

pub noted-drops : (policy : Policy) (before after : List Entry) (old new : Pass) → Drops policy before after old new → Noted old new
noted-drops policy before after old new drops = record { more = map note_of drops.misses; is = drops.noted }

pub noted-passes : (places : ℕ) (old new : Pass) → PassesOver places old new → Noted old new
noted-passes places old new over = record { more = notes_from 0 over.looks; is = over.noted }

pub noted-look : (pass : Pass) (place : ℕ) (seen : Word) → Noted pass (noting pass place seen)
noted-look pass place seen = record { more = note place seen ∷ []; is = refl }

noted-other : (old new : Pass) (place : ℕ) (seen : Word) → FindsOther old new place seen → Noted old new
noted-other old new place seen other = record { more = note place other.found ∷ []; is = other.sees.noted }

-- behind that, a place is claimed. The sandbox that is to run there stands for the request of the place, after as many turns as were found
pub record Claimed (places : ℕ) (old new : Pass) (s : SandboxView) : Type 0 where
  pub more : List Note
  pub found : Word
  pub is : new ≡ holding (noting_all old more) s.place found
  pub past : RisesPast (old.notes ++ more) s.place found
  pub turns : found.turns ≡ s.turns
  pub unanswered : rank found.state ≤ 1
  pub few : s.turns ≤ 1099511627776
  pub inside : s.place < places
  pub first : Task
  pub first_is : slice_get old.terms.jobs s.place ≡ Some first
  pub owned : IsNextOf old.terms.quantum first (Suspended s)

-- what a claim gets, by the notes behind which it was made
gets-behind : (old between new : Pass) (place : ℕ) (seen : Word) (task : Task) → (noted : Noted old between) → GetsTask between new place seen task → GetsTask (noting_all old noted.more) new place seen task
gets-behind old between new place seen task noted gets = subst (λ (p : Pass). GetsTask p new place seen task) noted.is gets

claimed-there : (places : ℕ) (old new : Pass) (more : List Note) (s : SandboxView) → old.terms.fixed ≡ true → s.place < places → s.turns ≤ 1099511627776
    → GetsTask (noting_all old more) new s.place (word s.turns state.Suspended) (Suspended s) → Claimed places old new s
claimed-there places old new more s fixed inside few gets =
    let own = gets.owned fixed in
    record {
      more = more;
      found = word s.turns state.Suspended;
      is = gets.holds;
      past = gets.past fixed;
      turns = refl;
      unanswered = omega arith;
      few = few;
      inside = inside;
      first = own.0;
      first_is = own.1;
      owned = own.2;
    }

-- a request that was stopped
pub claimed-suspended : (places : ℕ) (old between new : Pass) (place : ℕ) (seen : Word) (s : SandboxView) → Noted old between → old.terms.fixed ≡ true → place < places → s.turns ≤ 1099511627776
    → GetsTask between new place seen (Suspended s) → Claimed places old new s
claimed-suspended places old between new place seen s noted fixed inside few gets =
    let behind = gets-behind old between new place seen (Suspended s) noted gets in
    let here = subst (λ (p : ℕ). GetsTask (noting_all old noted.more) new p seen (Suspended s)) (sym gets.stands) behind in
    let there = subst (λ (w : Word). GetsTask (noting_all old noted.more) new s.place w (Suspended s)) (sym gets.told) here in
    claimed-there places old new noted.more s fixed (subst (λ (p : ℕ). p < places) (sym gets.stands) inside) few there

-- a request begins as the task of its place
starts-for : (quantum : ℕ) (own : Option AdmittedView) (job : AdmittedView) (berth : View) → IsTaskOf quantum own (Waiting job) → IsTaskOf quantum own (Suspended (started job berth))
starts-for quantum None job berth owned = owned
starts-for quantum (Some first) job berth owned = in_turns_at_start first.request quantum (started job berth) owned refl refl

-- a request that begins
pub claimed-waiting : (places : ℕ) (old new : Pass) (place : ℕ) (job : AdmittedView) (berth : View) → old.terms.fixed ≡ true → place < places → GetsTask old new place unbegun (Waiting job)
    → Claimed places old new (started job berth)
claimed-waiting places old new place job berth fixed inside gets =
    let here : GetsTask old new job.place unbegun (Waiting job) = subst (λ (p : ℕ). GetsTask old new p unbegun (Waiting job)) (sym gets.stands) gets in
    let own = here.owned fixed in
    record {
      more = [];
      found = unbegun;
      is = here.holds ∙ ap (λ (p : Pass). holding p job.place unbegun) (sym (noting-nothing old));
      past = subst (λ (ns : List Note). RisesPast ns job.place unbegun) (sym (append-nil old.notes)) (here.past fixed);
      turns = refl;
      unanswered = omega arith;
      few = omega arith;
      inside = subst (λ (p : ℕ). p < places) (sym gets.stands) inside;
      first = own.0;
      first_is = own.1;
      owned = starts-for old.terms.quantum (admitted_as own.0) job berth own.2;
    }

-- an element fits as all do
pub at-place : {A : Type 0} (P : A → Type 0) (xs : List A) (place : ℕ) (x : A) → All P xs → slice_get xs place ≡ Some x → P x
at-place P xs place x each is = subst P (get_or_from_slice_get xs place x x is) (each place x (slice_get_within xs place x is))

fits-first : (pages quantum : ℕ) (first : Task) (job : AdmittedView) → FitsIn pages first → IsNextOf quantum first (Waiting job) → job.request.program.pages ≤ pages
fits-first pages quantum (Waiting own) job fits owned = omega (arith, fits, ap (λ r. r.program.pages) owned)
fits-first pages quantum (Suspended s) job fits owned = absurd owned
fits-first pages quantum (Answered a) job fits owned = absurd owned

-- its program fits in a berth of the pool
pub fits-pool : (pages : ℕ) (old new : Pass) (place : ℕ) (job : AdmittedView) → old.terms.fixed ≡ true → All (FitsIn pages) old.terms.jobs → GetsTask old new place unbegun (Waiting job) → job.request.program.pages ≤ pages
fits-pool pages old new place job fixed roomy gets =
    let own = gets.owned fixed in fits-first pages old.terms.quantum own.0 job (at-place (FitsIn pages) old.terms.jobs place own.0 roomy own.1) own.2

-- Berths.

abbrev pub AreOf : (pages : ℕ) → List View → Type 0
AreOf pages berths = All (λ (berth : View). berth.pages ≡ pages) berths

-- the pass of a pool stays the pool's, with its parts
abbrev pub KeepsPass : PoolView → (old new : pools.PassView) → Type 0
KeepsPass p old new = pools.IsPassOf p new × (new.parts ≡ old.parts)

pub kept-after : (p : PoolView) (old new : pools.PassView) (more : List Try) (taken given : ℕ) → pools.IsPassOf p old → new ≡ after old more taken given → KeepsPass p old new
kept-after p old new more taken given own is = ((ap (λ (x : pools.PassView). x.id) is ∙ own.0, ap (λ (x : pools.PassView). x.pages) is ∙ own.1), ap (λ (x : pools.PassView). x.parts) is)

kept-taken : (p : PoolView) (old new : pools.PassView) (berth : Option View) → pools.IsPassOf p old → IsTaken p old new berth → KeepsPass p old new
kept-taken p old new None own taken = kept-after p old new taken.0 0 0 own taken.3
kept-taken p old new (Some berth) own taken = kept-after p old new _ 1 0 own taken.1.3

pub kept-same : (p : PoolView) (old new : pools.PassView) → pools.IsPassOf p old → new ≡ old → KeepsPass p old new
kept-same p old new own same = (subst (pools.IsPassOf p) (sym same) own, ap (λ (x : pools.PassView). x.parts) same)

pub kept-berth : (p : PoolView) (old new : pools.PassView) (stock left : List View) (berth : Option View) → pools.IsPassOf p old → IsBerth p old new stock left berth → KeepsPass p old new
kept-berth p old new stock left None own is = kept-taken p old new None own is.2
kept-berth p old new stock left (Some berth) own is = ⊎_elim (λ t. kept-same p old new own t.1) (λ t. kept-taken p old new (Some berth) own t.2) is

-- a berth that is at hand has the pool's pages, as those have that are left
pub record HasBerth (p : PoolView) (stock left : List View) (berth : View) : Type 0 where
  pub pages : berth.pages ≡ p.pages
  pub others : AreOf p.pages left
  pub fewer : length left ≤ length stock
  pub again : (k : ℕ) → length stock ≤ k + 1 → length (left ++ berth ∷ []) ≤ k + 1

pub has-berth : (p : PoolView) (old new : pools.PassView) (stock left : List View) (berth : View) → AreOf p.pages stock → IsBerth p old new stock left (Some berth) → HasBerth p stock left berth
has-berth p old new stock left berth stocked is =
    let P : View → Type 0 = λ (b : View). b.pages ≡ p.pages in
    let more = length-append left (berth ∷ []) in
    ⊎_elim
    (λ t.
    let parts = All-pop P stock left (Some berth) t.0 stocked in
    let count = ap length t.0 in
    record { pages = parts.1; others = parts.0; fewer = omega (arith, more, count); again = λ k few. omega (arith, more, count, few) })
    (λ t.
    let none = ap length t.1 in
    record { pages = ap (λ (b : View). b.pages) t.2.0; others = subst (AreOf p.pages) (sym t.1) (All-nil P); fewer = omega (arith, none); again = λ k few. omega (arith, more, none) })
    is

-- No request begins.

pub record NoneBegins (p : PoolView) (berths berths' : pools.PassView) (stock stock' : List View) (drawing drawing' : Drawing) (old new : Pass) : Type 0 where
  pub pool : KeepsPass p berths berths'
  pub queue : (drawing'.id ≡ drawing.id) × (drawing'.parts ≡ drawing.parts)
  pub stocked : AreOf p.pages stock'
  pub few : (k : ℕ) → length stock ≤ k + 1 → length stock' ≤ k + 1
  pub noted : Noted old new

drawn-same : (queue : CommonView) (drawing drawing' : Drawing) (place : Option ℕ) → IsDrawn queue drawing drawing' place → (drawing'.id ≡ drawing.id) × (drawing'.parts ≡ drawing.parts)
drawn-same queue drawing drawing' place drawn = (ap (λ (d : Drawing). d.id) drawn.noted, ap (λ (d : Drawing). d.parts) drawn.noted)

none-begins : (queue : CommonView) (drawing drawing' : Drawing) (old new : Pass) → IsBegun queue drawing drawing' old new None → ((drawing'.id ≡ drawing.id) × (drawing'.parts ≡ drawing.parts)) × Noted old new
none-begins queue drawing drawing' old new is =
    ⊎_elim (λ t. (drawn-same queue drawing drawing' None t.0, record { more = []; is = t.1 ∙ sym (noting-nothing old) })) (λ t. (drawn-same queue drawing drawing' (Some t.0) t.1, noted-other old new t.0 unbegun t.2)) is

pub cannot-begin : (p : PoolView) (berths berths' : pools.PassView) (stock stock' : List View) (queue : CommonView) (drawing drawing' : Drawing) (old new : Pass) → pools.IsPassOf p berths → AreOf p.pages stock
    → Begins p berths berths' stock stock' queue drawing drawing' old new None → NoneBegins p berths berths' stock stock' drawing drawing' old new
cannot-begin p berths berths' stock stock' queue drawing drawing' old new own stocked is =
    let P : View → Type 0 = λ (b : View). b.pages ≡ p.pages in
    ⊎_elim
    (λ t.
    let none = ap length t.0.1 in
    record {
      pool = kept-berth p berths berths' stock stock' None own t.0;
      queue = (ap (λ (d : Drawing). d.id) t.1, ap (λ (d : Drawing). d.parts) t.1);
      stocked = subst (AreOf p.pages) (sym t.0.1) (All-nil P);
      few = λ k few. omega (arith, none);
      noted = record { more = []; is = t.2 ∙ sym (noting-nothing old) };
    })
    (λ t.
    let has = has-berth p berths berths' stock t.1 t.0 stocked t.2 in
    let none = none-begins queue drawing drawing' old new t.4 in
    record {
      pool = kept-berth p berths berths' stock t.1 (Some t.0) own t.2;
      queue = none.0;
      stocked = subst (AreOf p.pages) (sym t.3) (All-push P t.1 t.0 has.others has.pages);
      few = λ k few. subst (λ (bs : List View). length bs ≤ k + 1) (sym t.3) (has.again k few);
      noted = none.1;
    })
    is
