-- Where a branch, a return or the end of a sequence goes on, and what is pending in a call or a block that was entered.
use Rattle.std.specs.Prelude.{ℕ, zero, suc, List, [], ◌∷◌, ◌++◌, Option, Some, None, option_map}
use Rattle.wasm_ops.specs.Sequence.{Sequence, InLoop}
use Rattle.wasm_ops.specs.declared.types.ValType.{ValType}
use Rattle.wasm_meaning.specs.Control.{Arguments}
use Rattle.wasm_meaning.specs.Execution.{kept, Caller, caller_of, entered, left_call}
use Rattle.wasm_meaning.specs.Pending.{Around, AroundBlock, AroundLoop, AroundCall, Entering, Pending}
use Rattle.wasm_meaning.specs.State.{Function, State, with_operands}
use Rattle.wasm_meaning.specs.Values.{Value}

abbrev pub pending_at : Sequence → List Around → State → Pending
pending_at s around st = record { sequence = s; around = around; state = st }

-- behind a block, with its result
abbrev pub past_block : Option ValType → (base : List Value) (rest : Sequence) → List Around → State → Option Pending
past_block t base rest around st = option_map (λ values. pending_at rest around (with_operands st (values ++ base))) (kept t st.operands)

-- back in the caller, with the result
abbrev pub past_call : Option ValType → Caller → (rest : Sequence) → List Around → State → Option Pending
past_call t caller rest around st = option_map (λ values. pending_at rest around (left_call caller st values)) (kept t st.operands)

-- what is pending after a branch to a label: the function's own is the outermost
abbrev pub branched : (label : ℕ) → List Around → State → Option Pending
branched label [] st = None
branched zero (AroundBlock t base rest ∷ around) st = past_block t base rest around st
branched (suc label) (AroundBlock t base rest ∷ around) st = branched label around st
branched zero (AroundLoop t base body rest ∷ around) st = Some (pending_at (InLoop t body rest) around (with_operands st base))
branched (suc label) (AroundLoop t base body rest ∷ around) st = branched label around st
branched zero (AroundCall t function caller rest ∷ around) st = past_call t caller rest around st
branched (suc label) (AroundCall t function caller rest ∷ around) st = None
branched label (Entering function ∷ around) st = None

-- after a return
abbrev pub returned : List Around → State → Option Pending
returned [] st = None
returned (AroundBlock t base rest ∷ around) st = returned around st
returned (AroundLoop t base body rest ∷ around) st = returned around st
returned (AroundCall t function caller rest ∷ around) st = past_call t caller rest around st
returned (Entering function ∷ around) st = None

-- after the end of a sequence
abbrev pub fallen : List Around → State → Option Pending
fallen [] st = None
fallen (AroundBlock t base rest ∷ around) st = Some (pending_at rest around (with_operands st (st.operands ++ base)))
fallen (AroundLoop t base body rest ∷ around) st = Some (pending_at rest around (with_operands st (st.operands ++ base)))
fallen (AroundCall t function caller rest ∷ around) st = past_call t caller rest around st
fallen (Entering function ∷ around) st = None

-- in a block, with the operands around it under it
abbrev pub in_block : Option ValType → (body rest : Sequence) → List Around → State → Pending
in_block t body rest around st = pending_at body (AroundBlock t st.operands rest ∷ around) (with_operands st [])

abbrev pub in_loop : Option ValType → (body rest : Sequence) → List Around → State → Pending
in_loop t body rest around st = pending_at body (AroundLoop t st.operands body rest ∷ around) (with_operands st [])

-- in a function that was called by another, the number of whose body is told, or from outside
abbrev pub in_call : Function → (caller : ℕ) → Arguments → (rest : Sequence) → List Around → State → Pending
in_call f caller taken rest around st =
    pending_at f.body (AroundCall f.result caller (caller_of st taken.under) rest ∷ around) (entered st f taken.arguments)
