-- What is known of the bodies of a module.
use Rattle.std.specs.Prelude.{◌≡◌, ℕ, ◌<◌, List, length, get_or}
use Rattle.wasm_ops.specs.declared.modules.Module.{Module}
use Rattle.wasm_typing.specs.declared.measures.Measure.{Measure}
use Rattle.wasm_meaning.specs.Validity.{IsValid, body_height, body_nest}

abbrev pub measure_at : Module → (number : ℕ) → Measure
measure_at m number = record { height = body_height m number; nest = body_nest m number }

-- these are the measures of the first bodies, so many of them
pub record AreMeasured (m : Module) (so_many : ℕ) (measures : List Measure) : Type 0 where
  pub count : length measures ≡ so_many
  pub each : (number : ℕ) (d : Measure) → number < so_many → get_or measures number d ≡ measure_at m number

-- the module is valid, and all its bodies are measured
pub record IsMeasured (m : Module) (measures : List Measure) : Type 0 where
  pub valid : IsValid m
  pub measured : AreMeasured m (length m.bodies) measures
