-- What a call of the host answers, and what it leaves of the vessel and of the streams.
use Rattle.std.specs.Prelude.{◌≡◌, ℕ, ◌<◌, ◌≤◌, Option, Some, None}
use Rattle.wasm_ops.specs.declared.host_calls.HostCall.{HostCall}
use Rattle.wasm_meaning.specs.HostCalls.{Streams, Gives, Exits, HostEffect}
use Rattle.wasm_store.specs.View.{View}
use Rattle.wasm_states.specs.HostCalls.{after_host}
use Rattle.wasi_calls.specs.declared.calls.HostStep.{HostStep}
use Rattle.wasi_calls.specs.declared.calls.HostStep.TheVariants.{Went, Exited, Short}
use Rattle.wasi_calls.specs.declared.transfers.Done.{Done}

-- it gave an error number, which is what its effect says, and all of the effect is there
pub record GaveErrno (call : HostCall) (left : ℕ) (effect : HostEffect) (v v' : View) (s' : Streams) (price : ℕ) : Type 0 where
  pub errno : ℕ
  pub gives : effect.answer ≡ Gives errno
  pub price_is : price ≡ effect.price
  pub within : price ≤ left
  pub vessel_is : v' ≡ after_host call effect v
  pub streams_are : s' ≡ effect.streams

-- it ended the program with a code
pub record HasExited (left : ℕ) (effect : HostEffect) (v v' : View) (s s' : Streams) (code price : ℕ) : Type 0 where
  pub exits : effect.answer ≡ Exits code
  pub price_is : price ≡ effect.price
  pub within : price ≤ left
  pub vessel_stays : v' ≡ v
  pub streams_stay : s' ≡ s
  pub streams_are : s' ≡ effect.streams

-- its price is more than what is left, and nothing changed
pub record FallsShort (left : ℕ) (effect : HostEffect) (v v' : View) (s s' : Streams) : Type 0 where
  pub short : left < effect.price
  pub vessel_stays : v' ≡ v
  pub streams_stay : s' ≡ s

-- by the answer
abbrev pub HostAnswers : HostCall → (left : ℕ) → HostEffect → (v v' : View) → (s s' : Streams) → HostStep → Type 0
HostAnswers call left effect v v' s s' (Went price) = GaveErrno call left effect v v' s' price
HostAnswers call left effect v v' s s' (Exited code price) = HasExited left effect v v' s s' code price
HostAnswers call left effect v v' s s' Short = FallsShort left effect v v' s s'

-- the part of a call that has to do with memory and streams was done
pub record HasMoved (left : ℕ) (effect : HostEffect) (v v' : View) (s' : Streams) (done : Done) : Type 0 where
  pub gives : effect.answer ≡ Gives done.errno
  pub price_is : done.price ≡ effect.price
  pub within : done.price ≤ left
  pub vessel_is : v' ≡ record v { memory = effect.memory }
  pub streams_are : s' ≡ effect.streams

-- or its price is more than what is left
abbrev pub Moves : (left : ℕ) → HostEffect → (v v' : View) → (s s' : Streams) → Option Done → Type 0
Moves left effect v v' s s' (Some done) = HasMoved left effect v v' s' done
Moves left effect v v' s s' None = FallsShort left effect v v' s s'
