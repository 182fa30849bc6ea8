-- Standing for a request: what a turn keeps, and what an answer tells.
use Rattle.std.specs.Prelude.{◌≡◌, ◌≢◌, ◌⊎◌, ℕ, ◌+◌, List, [], ◌∷◌, ◌++◌, sum, Some}
use Rattle.wasm_meaning.specs.Requests.{Request, Verdict, prices, units, verdict}
use Rattle.wasm_meaning.specs.Turns.{groups, turns}
use Rattle.sandbox_states.specs.Views.{SandboxView, FinishedView, AnswerView, remaining}
use Rattle.sandbox_states.specs.declared.turns.Turn.{Turn}
use Rattle.sandbox_states.specs.declared.turns.Turn.TheVariants as turn

-- it is the request's, and what it paid and has still to pay are the request's prices
pub record StandsFor (request : Request) (s : SandboxView) : Type 0 where
  pub of : s.request ≡ request
  pub before : List ℕ
  pub paid : sum before ≡ s.units
  pub prices_are : prices request ≡ before ++ remaining s

-- with the turns that are left it has the request's turns
pub record StandsInTurns (request : Request) (quantum : ℕ) (s : SandboxView) : Type 0 where
  pub stands : StandsFor request s
  pub in_all : s.turns + turns (remaining s) quantum ≡ turns (prices request) quantum

-- One turn.

-- a turn after which the run goes on: the first group of what was left is paid
pub record IsOneTurn (quantum : ℕ) (old new : SandboxView) : Type 0 where
  pub same_place : new.place ≡ old.place
  pub same_deadline : new.deadline ≡ old.deadline
  pub same_pages : new.pages ≡ old.pages
  pub same_request : new.request ≡ old.request
  pub counted : new.turns ≡ old.turns + 1
  pub group : List ℕ
  pub paid : new.units ≡ old.units + sum group
  pub rest : remaining old ≡ group ++ remaining new
  pub cut : groups (remaining old) quantum ≡ group ∷ groups (remaining new) quantum
  pub more : remaining new ≢ []

-- the last turn, which gives the request's verdict
pub record IsLastTurn (quantum : ℕ) (old : SandboxView) (new : FinishedView) : Type 0 where
  pub same_place : new.place ≡ old.place
  pub same_pages : new.pages ≡ old.pages
  pub counted : new.turns ≡ old.turns + 1
  pub became : verdict old.request ≡ Some new.verdict
  pub paid : new.units ≡ old.units + sum (remaining old)
  pub last : turns (remaining old) quantum ≡ 1

abbrev pub IsTurnOf : (quantum : ℕ) → SandboxView → Turn → Type 0
IsTurnOf quantum old (turn.Suspended new) = IsOneTurn quantum old new
IsTurnOf quantum old (turn.Done new) = IsLastTurn quantum old new

abbrev pub IsSuspended : Turn → Type 0
IsSuspended (turn.Suspended new) = Unit {0}
IsSuspended (turn.Done new) = ⊥

-- Answers.

-- the verdict and the units of the request
pub record AnswersFor (request : Request) (given : Verdict) (cost : ℕ) : Type 0 where
  pub verdict_is : verdict request ≡ Some given
  pub units_are : cost ≡ units request

-- and its turns
pub record AnswersIn (request : Request) (quantum : ℕ) (given : Verdict) (cost count : ℕ) : Type 0 where
  pub answers : AnswersFor request given cost
  pub turns_are : count ≡ turns (prices request) quantum

abbrev pub TurnStandsFor : Request → Turn → Type 0
TurnStandsFor request (turn.Suspended new) = StandsFor request new
TurnStandsFor request (turn.Done new) = AnswersFor request new.verdict new.units

abbrev pub TurnStandsInTurns : Request → (quantum : ℕ) → Turn → Type 0
TurnStandsInTurns request quantum (turn.Suspended new) = StandsInTurns request quantum new
TurnStandsInTurns request quantum (turn.Done new) = AnswersIn request quantum new.verdict new.units new.turns
