-- Those so far.
use Rattle.std.proofs.Common.{◌≡◌, ◌++◌, map, take}
use Rattle.wasm_meaning.specs.Programs.{first_global}
use Rattle.wasm_meaning.specs.Values.{numbers}
use Rattle.wasm_instance.proofs.fresh_states.lay_globals.Given as goal

abbrev pub invariant-loop-global : goal.invariant-loop-global
invariant-loop-global l = l.vessel ≡ record l.fn.vessel { globals = l.fn.vessel.globals ++ numbers (map first_global (take l.global-index l.globals)) }
