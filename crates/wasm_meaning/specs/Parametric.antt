-- Parametric operators (WebAssembly Core 1.0, section 4.4.2).
use Rattle.std.specs.Prelude.{ℕ, ◌==◌, Bool, true, false, if◌then◌else◌, List, [], ◌∷◌, Option, Some, None}
use Rattle.wasm_meaning.specs.Effects.{Effect, Goes, Breaks, Taken, take_i32}
use Rattle.wasm_meaning.specs.State.{State, push, with_operands}
use Rattle.wasm_meaning.specs.Values.{Value, type_of, has_type}

abbrev pub drop_from : List Value → State → Effect
drop_from [] st = Breaks
drop_from (value ∷ under) st = Goes (with_operands st under)

abbrev pub drop_effect : State → Effect
drop_effect st = drop_from st.operands st

-- the first of two values where the number is not 0
abbrev pub chosen : ℕ → (first second : Value) → Value
chosen n first second = if n == 0 then second else first

abbrev pub select_of : (same : Bool) → ℕ → (first second : Value) → State → Effect
select_of false n first second st = Breaks
select_of true n first second st = Goes (push (chosen n first second) st)

-- two values of one type
abbrev pub select_from : ℕ → List Value → State → Effect
select_from n (second ∷ first ∷ under) st = select_of (has_type (type_of second) first) n first second (with_operands st under)
select_from n _ st = Breaks

abbrev pub select_on : Option Taken → State → Effect
select_on None st = Breaks
select_on (Some taken) st = select_from taken.number taken.under st

abbrev pub select_effect : State → Effect
select_effect st = select_on (take_i32 st.operands) st
