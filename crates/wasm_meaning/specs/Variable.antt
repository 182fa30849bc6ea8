-- Variable operators (WebAssembly Core 1.0, section 4.4.3).
use Rattle.std.specs.Prelude.{ℕ, if◌then◌else◌, List, [], ◌∷◌, Option, Some, None, slice_get, slice_set}
use Rattle.wasm_meaning.specs.Effects.{Effect, Goes, Breaks, gives}
use Rattle.wasm_meaning.specs.State.{State, with_operands, with_locals, with_globals}
use Rattle.wasm_meaning.specs.Values.{Value, type_of, has_type}

-- the variables with a new value of one, which had one of the same type
abbrev pub replaced_one : Option Value → List Value → (index : ℕ) → Value → Option (List Value)
replaced_one None variables index value = None
replaced_one (Some old) variables index value =
    if has_type (type_of old) value then Some (slice_set variables index value) else None

abbrev pub replaced : List Value → (index : ℕ) → Value → Option (List Value)
replaced variables index value = replaced_one (slice_get variables index) variables index value

-- Locals.

abbrev pub local_get : (index : ℕ) → State → Effect
local_get index st = gives (slice_get st.frame.locals index) st

abbrev pub sets_locals : Option (List Value) → State → Effect
sets_locals None st = Breaks
sets_locals (Some locals) st = Goes (with_locals st locals)

abbrev pub local_set_from : List Value → (index : ℕ) → State → Effect
local_set_from [] index st = Breaks
local_set_from (value ∷ under) index st = sets_locals (replaced st.frame.locals index value) (with_operands st under)

abbrev pub local_set : (index : ℕ) → State → Effect
local_set index st = local_set_from st.operands index st

-- the value stays on the operands
abbrev pub local_tee_from : List Value → (index : ℕ) → State → Effect
local_tee_from [] index st = Breaks
local_tee_from (value ∷ under) index st = sets_locals (replaced st.frame.locals index value) st

abbrev pub local_tee : (index : ℕ) → State → Effect
local_tee index st = local_tee_from st.operands index st

-- Globals.

abbrev pub global_get : (index : ℕ) → State → Effect
global_get index st = gives (slice_get st.store.globals index) st

abbrev pub sets_globals : Option (List Value) → State → Effect
sets_globals None st = Breaks
sets_globals (Some globals) st = Goes (with_globals st globals)

abbrev pub global_set_from : List Value → (index : ℕ) → State → Effect
global_set_from [] index st = Breaks
global_set_from (value ∷ under) index st = sets_globals (replaced st.store.globals index value) (with_operands st under)

abbrev pub global_set : (index : ℕ) → State → Effect
global_set index st = global_set_from st.operands index st
