-- The parts of a shared desk's `next`, over the views of its passes.
use Rattle.std.specs.Prelude.{◌≡◌, ◌≢◌, ◌⊎◌, ℕ, ◌+◌, ◌<◌, List, [], ◌∷◌, ◌++◌, length, map, slice_get, Option, Some, None, MatchOption}
use Rattle.std.specs.List.{All}
use Rattle.job_board.specs.Boarding.{PassView, note, noting}
use Rattle.job_board.specs.Claiming.{Gets, Sees}
use Rattle.job_board.specs.Words.{word}
use Rattle.job_board.specs.declared.holders.Note.{Note}
use Rattle.job_board.specs.declared.words.State.TheVariants as state
use Rattle.job_board.specs.declared.words.Word.{Word}
use Rattle.memory_pool.specs.Giving.{IsGiven}
use Rattle.memory_pool.specs.Passing as pools
use Rattle.memory_pool.specs.Passing.{PoolView, IsTaken}
use Rattle.memory_pool.specs.declared.answers.Given.TheVariants.{Home, Kept}
use Rattle.run_queues.specs.Drawing.{CommonView, Drawing}
use Rattle.run_queues.specs.Serving.{Takes}
use Rattle.run_queues.specs.declared.entries.Entry.{Entry}
use Rattle.run_queues.specs.declared.policies.Policy.{Policy}
use Rattle.sandbox_states.specs.Views.{AdmittedView, SandboxView}
use Rattle.wasm_store.specs.View.{View}
use Rattle.worker_desks.specs.Tasks.{place_of, kind_of, turns_of, IsNextOf}
use Rattle.worker_desks.specs.declared.duties.Duty.{Duty}
use Rattle.worker_desks.specs.declared.duties.Duty.TheVariants.{Begin, Resume}
use Rattle.worker_desks.specs.declared.tasks.Task.{Task}
use Rattle.worker_desks.specs.declared.tasks.Task.TheVariants.{Waiting, Suspended}

-- a pass of a board of tasks
abbrev pub Pass : Type 0
Pass = PassView Task

-- A berth.

-- the last one in stock, or else what the pool's `take` of this call gave
abbrev pub IsBerth : PoolView → (old new : pools.PassView) → (stock left : List View) → Option View → Type 0
IsBerth p old new stock left None = (stock ≡ []) × (left ≡ []) × IsTaken p old new None
IsBerth p old new stock left (Some berth) =
    ((stock ≡ left ++ berth ∷ []) × (new ≡ old)) ⊎ ((stock ≡ []) × (left ≡ []) × IsTaken p old new (Some berth))

-- a berth of other pages than the pool's is dropped; else the pool's `give` of this call found a slot empty; or it found none, and the berth is in stock
abbrev pub IsGivenBack : PoolView → (old new : pools.PassView) → (stock stock' : List View) → View → Type 0
IsGivenBack p old new stock stock' berth =
    ((berth.pages ≢ p.pages) × (new ≡ old) × (stock' ≡ stock))
    ⊎ (((berth.pages ≡ p.pages) × IsGiven p old new berth Home × (stock' ≡ stock)) ⊎ ((berth.pages ≡ p.pages) × IsGiven p old new berth (Kept berth) × (stock' ≡ stock ++ berth ∷ [])))

-- A claim.

-- the task of the place, as the word told
abbrev pub GetsTask : (old new : Pass) → (place : ℕ) → (seen : Word) → Task → Type 0
GetsTask old new place seen task = Gets place_of kind_of turns_of IsNextOf old new place seen task

-- the word of the place was another one at the claim's step, and was noted
pub record FindsOther (old new : Pass) (place : ℕ) (seen : Word) : Type 0 where
  pub found : Word
  pub other : found ≢ seen
  pub sees : Sees old new place found

-- A new request.

-- the word of a place whose request has not begun
abbrev pub unbegun : Word
unbegun = word 0 state.Waiting

-- the place at the number that this call's draw gave
pub record IsDrawn (queue : CommonView) (old new : Drawing) (place : Option ℕ) : Type 0 where
  pub number : ℕ
  pub noted : new ≡ record old { drawn = old.drawn ++ number ∷ [] }
  pub is : place ≡ slice_get queue.places number

-- a place is drawn, and its request claimed as one that has not begun; or none is drawn, or the claim found another word
abbrev pub IsBegun : CommonView → (drawing drawing' : Drawing) → (old new : Pass) → Option AdmittedView → Type 0
IsBegun queue drawing drawing' old new (Some job) =
    (place : ℕ) × IsDrawn queue drawing drawing' (Some place) × GetsTask old new place unbegun (Waiting job)
IsBegun queue drawing drawing' old new None =
    (IsDrawn queue drawing drawing' None × (new ≡ old)) ⊎ ((place : ℕ) × IsDrawn queue drawing drawing' (Some place) × FindsOther old new place unbegun)

-- A request begins on a berth. Or no berth is at hand, and nothing is drawn; or there is one, it goes into stock, and no request is claimed.
abbrev pub Begins : PoolView → (berths berths' : pools.PassView) → (stock stock' : List View) → CommonView → (drawing drawing' : Drawing) → (old new : Pass) → Option Duty → Type 0
Begins p berths berths' stock stock' queue drawing drawing' old new (Some (Begin job berth)) =
    IsBerth p berths berths' stock stock' (Some berth) × IsBegun queue drawing drawing' old new (Some job)
Begins p berths berths' stock stock' queue drawing drawing' old new (Some (Resume sandbox)) = ⊥
Begins p berths berths' stock stock' queue drawing drawing' old new None =
    (IsBerth p berths berths' stock stock' None × (drawing' ≡ drawing) × (new ≡ old))
    ⊎ ((berth : View) × (left : List View) × IsBerth p berths berths' stock left (Some berth) × (stock' ≡ left ++ berth ∷ []) × IsBegun queue drawing drawing' old new None)

-- The desk's own queue.

-- the policy serves these entries, one after another, and leaves the others
abbrev pub Serves : Policy → (before : List Entry) → (served : List Entry) → (after : List Entry) → Type 0
Serves policy before [] after = after ≡ before
Serves policy before (entry ∷ served) after = (middle : List Entry) × Takes policy before middle entry × Serves policy middle served after

-- the word that an entry asks for
abbrev pub asked_by : Entry → Word
asked_by entry = word entry.turns state.Suspended

-- an entry whose claim found another word
pub record Miss : Type 0 where
  pub entry : Entry
  pub found : Word

abbrev pub noting_all : Pass → List Note → Pass
noting_all pass notes = record pass { notes = pass.notes ++ notes }

abbrev pub note_of : Miss → Note
note_of m = note m.entry.place m.found

-- entries were taken out in the order of the policy and dropped, each after a claim that found another word
pub record Drops (policy : Policy) (before after : List Entry) (old new : Pass) : Type 0 where
  pub misses : List Miss
  pub served : Serves policy before (map (λ (m : Miss). m.entry) misses) after
  pub others : All (λ (m : Miss). m.found ≢ asked_by m.entry) misses
  pub noted : new ≡ noting_all old (map note_of misses)

-- behind those that were dropped, the next one's request was claimed; or all were dropped
abbrev pub IsResumed : Policy → (before after : List Entry) → (old new : Pass) → Option SandboxView → Type 0
IsResumed policy before after old new None = Drops policy before after old new × (after ≡ [])
IsResumed policy before after old new (Some sandbox) =
    (middle : List Entry) × (between : Pass) × Drops policy before middle old between × ((entry : Entry) × Takes policy middle after entry × GetsTask between new entry.place (asked_by entry) (Suspended sandbox))

-- All places.

-- what a look saw, and what a claim of that found in its place, if one was made
pub record Look : Type 0 where
  pub seen : Word
  pub found : Option Word

-- the place was not suspended, or the claim of that word found another one
abbrev pub IsPassedOver : Look → Type 0
IsPassedOver look = MatchOption look.found (look.seen.state ≢ state.Suspended) (λ w. (look.seen.state ≡ state.Suspended) × (w ≢ look.seen))

abbrev pub notes_at : (place : ℕ) → Option Word → List Note
notes_at place None = []
notes_at place (Some w) = note place w ∷ []

-- the notes of looks at one place after another
abbrev pub notes_from : (place : ℕ) → List Look → List Note
notes_from place [] = []
notes_from place (look ∷ looks) = (note place look.seen ∷ notes_at place look.found) ++ notes_from (place + 1) looks

-- each of so many places was looked at once, in order, and passed over
pub record PassesOver (places : ℕ) (old new : Pass) : Type 0 where
  pub looks : List Look
  pub count : length looks ≡ places
  pub each : All IsPassedOver looks
  pub noted : new ≡ noting_all old (notes_from 0 looks)

-- behind those that were passed over, a place was seen suspended and claimed so; or all were passed over
abbrev pub IsTakenOver : (places : ℕ) → (old new : Pass) → Option SandboxView → Type 0
IsTakenOver places old new None = PassesOver places old new
IsTakenOver places old new (Some sandbox) =
    (place : ℕ) × (place < places) × (between : Pass) × PassesOver place old between × ((seen : Word) × (seen.state ≡ state.Suspended) × GetsTask (noting between place seen) new place seen (Suspended sandbox))

-- The desk's own queue is gone through, and then all places, until a claim gets a request.
abbrev pub Resumes : Policy → (before after : List Entry) → (places : ℕ) → (old new : Pass) → Option SandboxView → Type 0
Resumes policy before after places old new None = (between : Pass) × IsResumed policy before after old between None × IsTakenOver places between new None
Resumes policy before after places old new (Some sandbox) =
    IsResumed policy before after old new (Some sandbox)
    ⊎ ((between : Pass) × IsResumed policy before after old between None × IsTakenOver places between new (Some sandbox))
