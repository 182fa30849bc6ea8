-- What a put leaves of a desk, and that a new one is sound.
use Rattle.std.proofs.Common.{◌≡◌, ◌⊎◌, ⊎_elim, ℕ, ◌+◌, ◌*◌, ◌<◌, ◌≤◌, true, List, [], ◌∷◌, ◌++◌, length, slice_get, Option, Some, None, option_map, refl, sym, ap, subst, ◌∙◌, arith, length-append}
use Rattle.std.proofs.lemmas.List.{append-nil}
use Rattle.std.proofs.lemmas.List.Elements.{All-nil, All-push}
use Rattle.std.specs.List.{All}
use Rattle.job_board.specs.Boarding as boards
use Rattle.job_board.specs.Boarding.{places_of, note, hold, putting, RisesPast}
use Rattle.job_board.specs.Words.{rank, word, Rises}
use Rattle.job_board.specs.declared.holders.Hold.{Hold}
use Rattle.job_board.specs.declared.holders.Note.{Note}
use Rattle.job_board.specs.declared.holders.Terms.{Terms}
use Rattle.job_board.specs.declared.words.State.TheVariants as state
use Rattle.job_board.specs.declared.words.Word.{Word}
use Rattle.memory_pool.specs.Passing as pools
use Rattle.run_queues.specs.Queue.{Queue}
use Rattle.run_queues.specs.declared.entries.Entry.{Entry}
use Rattle.sandbox_states.specs.Stands.{StandsInTurns, AnswersIn, IsOneTurn, IsLastTurn}
use Rattle.sandbox_states.specs.Views.{AdmittedView, SandboxView, FinishedView, AnswerView, answer_of}
use Rattle.wasm_meaning.specs.Requests.{Request}
use Rattle.wasm_store.specs.View.{View}
use Rattle.worker_desks.proofs.Finding.{AreOf, KeepsPass, kept-after, kept-same}
use Rattle.worker_desks.proofs.Notes.{TellsLess, tells-rising, left-falls, begun-grows, answered-grows, begun-few, answered-few, answered-more, left-most}
use Rattle.worker_desks.specs.Desks.{DeskView, Regains}
use Rattle.worker_desks.specs.Duties.{begins_of, OfDuty, IsDelivered}
use Rattle.worker_desks.specs.Noted.{due_of, notes_due, turns_left, begun_places, answered_places, most_turns}
use Rattle.worker_desks.specs.Parts.{Pass, IsGivenBack}
use Rattle.worker_desks.specs.Sharing.{SharedView, state_of, IsShared, IsEntryOf, HoldsDuty, OutStands}
use Rattle.worker_desks.specs.Tasks.{FitsIn, IsTaskOf, IsNextOf, admitted_as}
use Rattle.worker_desks.specs.declared.duties.Duty.{Duty}
use Rattle.worker_desks.specs.declared.tasks.Task.{Task}
use Rattle.worker_desks.specs.declared.tasks.Task.TheVariants.{Suspended, Answered}

-- A new desk.

pub shared-new : (d : SharedView) → boards.IsPassOf d.board d.board_pass → d.board_pass.held ≡ None → d.board.terms.fixed ≡ true → pools.IsPassOf d.pool d.pool_pass → d.queue_pass.id ≡ d.queue.id → All (λ (place : ℕ). place < places_of d.board) d.queue.places
    → All (FitsIn d.pool.pages) d.board.terms.jobs → d.local.entries ≡ [] → d.local.room ≡ places_of d.board + 1 → d.stock ≡ [] → d.out ≡ None → d.given ≡ 0 → IsShared d
shared-new d own free fixed pool queue drawn roomy none room stock out given =
    let places : ℕ = places_of d.board in
    let nothing : length (due_of d.board_pass.held) ≡ 0 = ap (λ (h : Option Hold). length (due_of h)) free in
    record {
      board_own = own;
      fixed = fixed;
      pool_own = pool;
      queue_own = queue;
      drawn = drawn;
      roomy = roomy;
      stocked = subst (AreOf d.pool.pages) (sym stock) (All-nil (λ (b : View). b.pages ≡ d.pool.pages));
      entries = subst (All (IsEntryOf places)) (sym none) (All-nil (IsEntryOf places));
      room = room;
      out = subst (λ (o : Option Duty). OutStands o d.board_pass) (sym out) free;
      waiting = omega (arith, nothing, ap length none);
      kept = omega (arith, ap length stock);
      counted = omega (arith, given, left-most places (notes_due d.board_pass));
    }

-- What comes back for the duty that is out.

-- the place that is held, and the turns that the request has had by now
pub record Returns (d : SharedView) (place turns : ℕ) : Type 0 where
  pub found : Word
  pub held : d.board_pass.held ≡ Some (hold place found)
  pub counted : turns ≡ found.turns + 1
  pub few : turns ≤ 1099511627777
  pub unanswered : rank found.state ≤ 1
  pub inside : place < places_of d.board
  pub past : RisesPast d.board_pass.notes place found

returns-at : (d : SharedView) → IsShared d → (old : SandboxView) → HoldsDuty old d.board_pass → (place turns : ℕ) → place ≡ old.place → turns ≡ old.turns + 1 → Returns d place turns
returns-at d i old holds place turns same counted =
    let words : d.board_pass.id.words ≡ places_of d.board = ap (λ t. t.words) i.board_own.0 in
    subst (λ (p : ℕ). Returns d p turns) (sym same) (record {
      found = holds.found;
      held = holds.held;
      counted = omega (arith, counted, holds.turns);
      few = omega (arith, counted, holds.few);
      unanswered = holds.unanswered;
      inside = omega (arith, words, holds.inside);
      past = holds.past;
    })

-- the sandbox that was handed out, of which this holds
pub record Handed (d : SharedView) (P : SandboxView → Type 0) : Type 0 where
  pub old : SandboxView
  pub holds : HoldsDuty old d.board_pass
  pub so : P old

handed-out : (out : Option Duty) (pass : Pass) (P : SandboxView → Type 0) → OutStands out pass → OfDuty (option_map begins_of out) P → (old : SandboxView) × HoldsDuty old pass × P old
handed-out None pass P stands of = absurd of
handed-out (Some duty) pass P stands of = (begins_of duty, stands, of)

handed-is : (d : SharedView) (P : SandboxView → Type 0) → IsShared d → OfDuty (option_map begins_of d.out) P → Handed d P
handed-is d P i of = let h = handed-out d.out d.board_pass P i.out of in record { old = h.0; holds = h.1; so = h.2 }

quantum-of : (d : SharedView) → IsShared d → d.board_pass.terms.quantum ≡ d.board.terms.quantum
quantum-of d i = ap (λ (t : Terms Task). t.quantum) i.board_own.1

-- what is put belongs to the request of the place
abbrev pub BelongsAt : (d : SharedView) → (place : ℕ) → Task → Type 0
BelongsAt d place task =
    d.board_pass.terms.fixed ≡ true → (first : Task) × (slice_get d.board_pass.terms.jobs place ≡ Some first) × IsNextOf d.board_pass.terms.quantum first task

-- A sandbox that was stopped.

abbrev pub TurnsKeep : Type 0
TurnsKeep = (request : Request) (quantum : ℕ) (old new : SandboxView) → StandsInTurns request quantum old → IsOneTurn quantum old new → StandsInTurns request quantum new

abbrev pub IsTurned : (v : SharedView) → SandboxView → Type 0
IsTurned v s = OfDuty (state_of v).out (λ old. IsOneTurn (state_of v).quantum old s)

stopped-task : TurnsKeep → (quantum : ℕ) (own : Option AdmittedView) (old s : SandboxView) → IsTaskOf quantum own (Suspended old) → IsOneTurn quantum old s → IsTaskOf quantum own (Suspended s)
stopped-task keep quantum None old s owned turn = owned
stopped-task keep quantum (Some job) old s owned turn = keep job.request quantum old s owned turn

turned : (d v : SharedView) → d ≡ v → IsShared d → (s : SandboxView) → IsTurned v s → Handed d (λ old. IsOneTurn d.board.terms.quantum old s)
turned d v same i s of = handed-is d (λ old. IsOneTurn d.board.terms.quantum old s) i (subst (λ (x : SharedView). IsTurned x s) (sym same) of)

pub returns-stopped : (d v : SharedView) → d ≡ v → IsShared d → (s : SandboxView) → IsTurned v s → (place : ℕ) → place ≡ s.place → Returns d place s.turns
returns-stopped d v same i s of place here = let h = turned d v same i s of in returns-at d i h.old h.holds place s.turns (here ∙ h.so.same_place) h.so.counted

pub belongs-stopped : (d v : SharedView) → d ≡ v → IsShared d → (s : SandboxView) → IsTurned v s → TurnsKeep → (place : ℕ) → place ≡ s.place → BelongsAt d place (Suspended s)
belongs-stopped d v same i s of keep place here fixed =
    let h = turned d v same i s of in
    let turn = subst (λ (q : ℕ). IsOneTurn q h.old s) (sym (quantum-of d i)) h.so in
    (h.holds.first, ap (slice_get d.board_pass.terms.jobs) (here ∙ h.so.same_place) ∙ h.holds.first_is, stopped-task keep d.board_pass.terms.quantum (admitted_as h.holds.first) h.old s h.holds.owned turn)

-- An answer.

abbrev pub TurnsEnd : Type 0
TurnsEnd = (request : Request) (quantum : ℕ) (old : SandboxView) (new : FinishedView) → StandsInTurns request quantum old → IsLastTurn quantum old new → AnswersIn request quantum new.verdict new.units new.turns

abbrev pub IsOver : (v : SharedView) → AnswerView → View → Type 0
IsOver v answer berth = OfDuty (state_of v).out (λ old. IsDelivered (state_of v).quantum old answer berth)

answered-task : TurnsEnd → (quantum : ℕ) (own : Option AdmittedView) (old : SandboxView) (answer : AnswerView) (berth : View) → IsTaskOf quantum own (Suspended old) → IsDelivered quantum old answer berth → IsTaskOf quantum own (Answered answer)
answered-task end quantum None old answer berth owned over = owned
answered-task end quantum (Some job) old answer berth owned over =
    subst (λ (a : AnswerView). AnswersIn job.request quantum a.verdict a.units a.turns) (sym over.answered) (end job.request quantum old over.finished owned over.last)

over-now : (d v : SharedView) → d ≡ v → IsShared d → (answer : AnswerView) (berth : View) → IsOver v answer berth → Handed d (λ old. IsDelivered d.board.terms.quantum old answer berth)
over-now d v same i answer berth of =
    handed-is d (λ old. IsDelivered d.board.terms.quantum old answer berth) i (subst (λ (x : SharedView). IsOver x answer berth) (sym same) of)

answer-place : (quantum : ℕ) (old : SandboxView) (answer : AnswerView) (berth : View) → IsDelivered quantum old answer berth → (answer.place ≡ old.place) × (answer.turns ≡ old.turns + 1)
answer-place quantum old answer berth over =
    (ap (λ (a : AnswerView). a.place) over.answered ∙ over.last.same_place, ap (λ (a : AnswerView). a.turns) over.answered ∙ over.last.counted)

pub returns-answered : (d v : SharedView) → d ≡ v → IsShared d → (answer : AnswerView) (berth : View) → IsOver v answer berth → (place : ℕ) → place ≡ answer.place → Returns d place answer.turns
returns-answered d v same i answer berth of place here =
    let h = over-now d v same i answer berth of in
    let told = answer-place d.board.terms.quantum h.old answer berth h.so in
    returns-at d i h.old h.holds place answer.turns (here ∙ told.0) told.1

pub belongs-answered : (d v : SharedView) → d ≡ v → IsShared d → (answer : AnswerView) (berth : View) → IsOver v answer berth → TurnsEnd → (place : ℕ) → place ≡ answer.place → BelongsAt d place (Answered answer)
belongs-answered d v same i answer berth of end place here fixed =
    let h = over-now d v same i answer berth of in
    let over = subst (λ (q : ℕ). IsDelivered q h.old answer berth) (sym (quantum-of d i)) h.so in
    let told = answer-place d.board.terms.quantum h.old answer berth h.so in
    (h.holds.first, ap (slice_get d.board_pass.terms.jobs) (here ∙ told.0) ∙ h.holds.first_is, answered-task end d.board_pass.terms.quantum (admitted_as h.holds.first) h.old answer berth h.holds.owned over)

-- Behind a put.

due-held : (d : SharedView) (place turns : ℕ) → (r : Returns d place turns) → notes_due d.board_pass ≡ d.board_pass.notes ++ note place (word (r.found.turns + 1) state.Suspended) ∷ []
due-held d place turns r = ap (λ (h : Option Hold). d.board_pass.notes ++ due_of h) r.held

due-put : (pass : Pass) (place : ℕ) (w : Word) → notes_due (putting pass place w) ≡ pass.notes ++ note place w ∷ []
due-put pass place w = append-nil (pass.notes ++ note place w ∷ [])

tells-put : (d : SharedView) (place turns : ℕ) (w : Word) → (r : Returns d place turns) → Rises (word (r.found.turns + 1) state.Suspended) w → TellsLess (notes_due d.board_pass) (notes_due (putting d.board_pass place w))
tells-put d place turns w r up =
    subst (λ (xs : List Note). TellsLess xs (notes_due (putting d.board_pass place w))) (sym (due-held d place turns r))
    (subst (λ (ys : List Note). TellsLess (d.board_pass.notes ++ note place (word (r.found.turns + 1) state.Suspended) ∷ []) ys) (sym (due-put d.board_pass place w))
    (tells-rising d.board_pass.notes place (word (r.found.turns + 1) state.Suspended) w up))

held-one : (d : SharedView) (place turns : ℕ) → Returns d place turns → length (due_of d.board_pass.held) ≡ 1
held-one d place turns r = ap (λ (h : Option Hold). length (due_of h)) r.held

-- there is room for one entry more
pub push-room : (d : SharedView) (place turns : ℕ) → IsShared d → Returns d place turns → length d.local.entries < d.local.room
push-room d place turns i r =
    omega (arith, i.waiting, i.room, held-one d place turns r, begun-few (places_of d.board) (notes_due d.board_pass))

pub shared-put-back : (d : SharedView) (place turns : ℕ) (pass : Pass) (local : Queue) (e : Entry) → IsShared d → Returns d place turns → pass ≡ putting d.board_pass place (word turns state.Suspended) → local ≡ record d.local { entries = d.local.entries ++ e ∷ [] }
    → e.place ≡ place → e.turns ≡ turns → IsShared (record d { board_pass = pass; local = local; out = None })
shared-put-back d place turns pass local e i r put pushed at counted =
    let places : ℕ = places_of d.board in
    let more = tells-put d place turns (word turns state.Suspended) r (omega (arith, r.counted), omega arith) in
    let longer = length-append d.local.entries (e ∷ []) in
    let entry : IsEntryOf places e = record { inside = omega (arith, at, r.inside); few = omega (arith, counted, r.few) } in
    let new : Pass = putting d.board_pass place (word turns state.Suspended) in
    let queue : Queue = record d.local { entries = d.local.entries ++ e ∷ [] } in
    let there : IsShared (record d { board_pass = new; local = queue; out = None }) = record {
      board_own = i.board_own;
      fixed = i.fixed;
      pool_own = i.pool_own;
      queue_own = i.queue_own;
      drawn = i.drawn;
      roomy = i.roomy;
      stocked = i.stocked;
      entries = All-push (IsEntryOf places) d.local.entries e i.entries entry;
      room = i.room;
      out = refl;
      waiting = omega (arith, longer, i.waiting, held-one d place turns r, begun-grows places _ _ more);
      kept = omega (arith, i.kept, answered-grows places _ _ more);
      counted = omega (arith, i.counted, left-falls places _ _ more);
    } in
    subst (λ (p : Pass). IsShared (record d { board_pass = p; local = local; out = None })) (sym put) (subst (λ (q : Queue). IsShared (record d { board_pass = new; local = q; out = None })) (sym pushed) there)

-- there is room for one berth more
pub stock-room : (d : SharedView) (place turns : ℕ) → IsShared d → Returns d place turns → length d.stock ≤ places_of d.board
stock-room d place turns i r =
    let places : ℕ = places_of d.board in
    let due : answered_places places (notes_due d.board_pass) ≡ answered_places places (d.board_pass.notes ++ note place (word (r.found.turns + 1) state.Suspended) ∷ []) = ap (answered_places places) (due-held d place turns r) in
    omega (arith, i.kept, due, answered-few places place d.board_pass.notes r.found (r.found.turns + 1) r.inside r.past r.unanswered)

-- where the berth goes
record KeptBack (d : SharedView) (pool_pass : pools.PassView) (stock : List View) : Type 0 where
  pool : KeepsPass d.pool d.pool_pass pool_pass
  stocked : AreOf d.pool.pages stock
  few : length stock ≤ length d.stock + 1

kept-back : (d : SharedView) (pool_pass : pools.PassView) (stock : List View) (berth : View) → IsShared d → IsGivenBack d.pool d.pool_pass pool_pass d.stock stock berth → KeptBack d pool_pass stock
kept-back d pool_pass stock berth i is =
    let P : View → Type 0 = λ (b : View). b.pages ≡ d.pool.pages in
    let as_before : stock ≡ d.stock → KeepsPass d.pool d.pool_pass pool_pass → KeptBack d pool_pass stock = λ same pool. record { pool = pool; stocked = subst (AreOf d.pool.pages) (sym same) i.stocked; few = omega (arith, ap length same) } in
    ⊎_elim (λ dropped. as_before dropped.2 (kept-same d.pool d.pool_pass pool_pass i.pool_own dropped.1))
    (λ given.
    ⊎_elim (λ home. as_before home.2 (kept-after d.pool d.pool_pass pool_pass _ 0 1 i.pool_own home.1.3))
    (λ back. record {
      pool = kept-after d.pool d.pool_pass pool_pass _ 0 0 i.pool_own back.1.1.3;
      stocked = subst (AreOf d.pool.pages) (sym back.2) (All-push P d.stock berth i.stocked back.0);
      few = omega (arith, ap length back.2, length-append d.stock (berth ∷ []));
    })
    given)
    is

pub shared-delivered : (d : SharedView) (place turns : ℕ) (pass : Pass) (pool_pass : pools.PassView) (stock : List View) (berth : View) → IsShared d → Returns d place turns → pass ≡ putting d.board_pass place (word turns state.Answered)
    → IsGivenBack d.pool d.pool_pass pool_pass d.stock stock berth → IsShared (record d { board_pass = pass; pool_pass = pool_pass; stock = stock; out = None })
shared-delivered d place turns pass pool_pass stock berth i r put given =
    let places : ℕ = places_of d.board in
    let w : Word = word turns state.Answered in
    let back = kept-back d pool_pass stock berth i given in
    let more = tells-put d place turns w r (omega (arith, r.counted), omega arith) in
    let new : Pass = putting d.board_pass place w in
    let xs : List Note = d.board_pass.notes in
    let before : answered_places places (notes_due d.board_pass) ≡ answered_places places (xs ++ note place (word turns state.Suspended) ∷ []) = ap (answered_places places) (due-held d place turns r ∙ ap (λ (n : ℕ). xs ++ note place (word n state.Suspended) ∷ []) (sym r.counted)) in
    let behind : answered_places places (notes_due new) ≡ answered_places places (xs ++ note place w ∷ []) = ap (answered_places places) (due-put d.board_pass place w) in
    let there : IsShared (record d { board_pass = new; pool_pass = pool_pass; stock = stock; out = None }) = record {
      board_own = i.board_own;
      fixed = i.fixed;
      pool_own = back.pool.0;
      queue_own = i.queue_own;
      drawn = i.drawn;
      roomy = i.roomy;
      stocked = back.stocked;
      entries = i.entries;
      room = i.room;
      out = refl;
      waiting = omega (arith, i.waiting, held-one d place turns r, begun-grows places _ _ more);
      kept = omega (arith, i.kept, back.few, before, behind, answered-more places place xs r.found turns r.inside r.past r.unanswered);
      counted = omega (arith, i.counted, left-falls places _ _ more);
    } in
    subst (λ (p : Pass). IsShared (record d { board_pass = p; pool_pass = pool_pass; stock = stock; out = None })) (sym put) there

-- what a desk is as it tells it, behind a put
pub regains-put : (d : SharedView) (place turns : ℕ) (w : Word) (pass : Pass) → (r : Returns d place turns) → Rises (word (r.found.turns + 1) state.Suspended) w → pass ≡ putting d.board_pass place w
    → Regains (state_of d) (state_of (record d { board_pass = pass; out = None }))
regains-put d place turns w pass r up put = record {
  bound = subst (λ (p : Pass). turns_left (places_of d.board) (notes_due p) ≤ turns_left (places_of d.board) (notes_due d.board_pass)) (sym put) (left-falls (places_of d.board) _ _ (tells-put d place turns w r up));
  given = refl;
  ended = refl;
  out = refl;
  quantum = refl;
}

-- a sandbox, or an answer, with one turn more may come behind what is due
pub rises-due : (d : SharedView) (place turns : ℕ) → (r : Returns d place turns) → Rises (word (r.found.turns + 1) state.Suspended) (word turns state.Suspended) × Rises (word (r.found.turns + 1) state.Suspended) (word turns state.Answered)
rises-due d place turns r = ((omega (arith, r.counted), omega arith), (omega (arith, r.counted), omega arith))
