-- A call of the host is one operator of what is pending.
use Rattle.std.proofs.Common.{◌≡◌, ℕ, ◌+◌, ◌≤◌, ◌<◌, ◌^◌, ◌∷◌, [], sym, subst, ◌∙◌}
use Rattle.wasm_meaning.specs.HostCalls.{Streams}
use Rattle.wasm_meaning.specs.Pending.{Pending, onward}
use Rattle.wasm_meaning.specs.Programs.{Program, instance_of}
use Rattle.wasm_meaning.specs.State.{Spent, Exited, paid}
use Rattle.wasm_ops.specs.declared.host_calls.HostCall.{HostCall}
use Rattle.wasm_states.specs.Holding.{Holds, IsState, free_moves}
use Rattle.wasm_states.specs.HostCalls.{Calls, IsHost, effect_of}
use Rattle.wasm_states.specs.Steps.{IsOver, item}
use Rattle.wasm_store.specs.View.{View}
use Rattle.wasi_calls.specs.Answers.{GaveErrno, HasExited, FallsShort, HostAnswers}
use Rattle.wasi_calls.specs.Laws.{GoesOn, IsExit, IsShort, RunsAs}
use Rattle.wasi_calls.specs.declared.calls.HostStep.{HostStep}
use Rattle.wasi_calls.specs.declared.calls.HostStep.TheVariants.{Went, Exited, Short}

module _ (p : Program) (w : Pending) (v v' : View) (s' : Streams) (call : HostCall) (left : ℕ) (known : Calls p w v call) where
  goes_on : (price : ℕ) → GaveErrno call left (effect_of call v w.state.store.streams) v v' s' price → GoesOn p w left v' s' price
  goes_on price gave =
      let next = known.went gave.errno gave.gives in
      let inst = instance_of p in
      record {
        pending = next.pending;
        holds = subst (λ (u : View). Holds p u next.pending) (sym gave.vessel_is) next.holds;
        streams_are = next.streams_are ∙ sym gave.streams_are;
        same =
            subst
            (λ (n : ℕ). (bound rest : ℕ) → n + rest ≤ bound → onward inst bound w (n + rest) ≡ paid (item n) (onward inst bound next.pending rest))
            (sym gave.price_is)
            next.same;
        state = subst (IsState p) (sym gave.vessel_is) next.state;
        few = subst (λ (u : View). free_moves u < 2 ^ 32) (sym gave.vessel_is) next.few;
        least = subst (λ (n : ℕ). 1 ≤ n) (sym gave.price_is) known.least;
        within = gave.within;
      }

  exits : (code price : ℕ) → HasExited left (effect_of call v w.state.store.streams) v v' w.state.store.streams s' code price → IsExit p w left s' code price
  exits code price exit =
      let inst = instance_of p in
      record {
        over =
            subst
            (λ (n : ℕ). (bound rest : ℕ) → n + rest ≤ bound → IsOver (onward inst bound w (n + rest)) (Exited code) (item n) rest s')
            (sym exit.price_is)
            (subst
            (λ (s : Streams). (bound rest : ℕ) → (effect_of call v w.state.store.streams).price + rest ≤ bound → IsOver (onward inst bound w ((effect_of call v w.state.store.streams).price + rest)) (Exited code) (item (effect_of call v w.state.store.streams).price) rest s)
            (sym exit.streams_are)
            (known.exited code exit.exits));
        least = subst (λ (n : ℕ). 1 ≤ n) (sym exit.price_is) known.least;
        within = exit.within;
      }

  falls_short : Holds p v w → FallsShort left (effect_of call v w.state.store.streams) v v' w.state.store.streams s' → IsShort p w left v' s'
  falls_short holds short = record {
    over = subst (λ (s : Streams). (bound : ℕ) → IsOver (onward (instance_of p) bound w left) Spent (0 ∷ []) left s) (sym short.streams_stay) (λ bound. known.short bound left short.short);
    holds = subst (λ (u : View). Holds p u w) (sym short.vessel_stays) holds;
    streams_are = sym short.streams_stay;
  }

pub runs_as
    : (p : Program) (w : Pending) (v v' : View) (s' : Streams) (call : HostCall) (left : ℕ) (result : HostStep) → IsHost p v call → Holds p v w
    → HostAnswers call left (effect_of call v w.state.store.streams) v v' w.state.store.streams s' result → RunsAs p w left v' s' result
runs_as p w v v' s' call left (Went price) is holds answers = goes_on p w v v' s' call left (is.calls w holds) price answers
runs_as p w v v' s' call left (Exited code price) is holds answers = exits p w v v' s' call left (is.calls w holds) code price answers
runs_as p w v v' s' call left Short is holds answers = falls_short p w v v' s' call left (is.calls w holds) holds answers
