-- Operands and open blocks keep within what their function is counted with.
use Rattle.std.proofs.Common.{◌≡◌, ℕ, ◌+◌, ◌≤◌, List, [], ◌∷◌, ◌++◌, length, Option, Some, None, refl, arith, length-append}
use Rattle.std.specs.Prelude.{option_to_list}
use Rattle.wasm_ops.specs.Sequence.{Sequence}
use Rattle.wasm_ops.specs.declared.modules.Module.{Module}
use Rattle.wasm_ops.specs.declared.types.ValType.{ValType}
use Rattle.wasm_meaning.specs.Execution.{Caller}
use Rattle.wasm_meaning.specs.Fitting.{AreOf}
use Rattle.wasm_meaning.specs.Pending.{Around, AroundBlock, AroundLoop, AroundCall, Entering, Pending}
use Rattle.wasm_meaning.specs.Programs.{Program}
use Rattle.wasm_meaning.specs.State.{Function}
use Rattle.wasm_meaning.specs.Typing.{back}
use Rattle.wasm_meaning.specs.TypingOperands.{Walk}
use Rattle.wasm_meaning.specs.Values.{Value, zero_of}
use Rattle.wasm_meaning.proofs.Fits.{has_value_of}
use Rattle.wasm_pending.proofs.Grows.{lay_result_same, typed_grows}
use Rattle.wasm_pending.proofs.Walks.{fit_length}
use Rattle.wasm_pending.specs.Frames.{in_frame, open_in, calls_in, context}
use Rattle.wasm_pending.specs.Typed.{Placed, behind_block, CallerTyped, OnlyEntries, TypedAround, Typed}

-- what is counted at the end of a sequence is within its function's height
pub end_within : (m : Module) (f : Function) (end : Walk) (around : List Around) → TypedAround m f end around → end.most ≤ f.height
end_within m f end [] outside = absurd outside
end_within m f end (AroundBlock t base rest ∷ around) outside =
    let b = outside.0 in
    let more = end_within m f b.last around outside.1 in
    let grows = typed_grows (context m f around) rest (behind_block t b.outer b.closed) b.last b.sequence.goes in
    let laid = lay_result_same t (back b.outer b.closed) in
    omega (arith, more, grows, laid.most, b.counted)
end_within m f end (AroundLoop t base body rest ∷ around) outside =
    let b = outside.0 in
    let more = end_within m f b.last around outside.1 in
    let grows = typed_grows (context m f around) rest (behind_block t b.outer b.closed) b.last b.sequence.goes in
    let laid = lay_result_same t (back b.outer b.closed) in
    omega (arith, more, grows, laid.most, b.counted)
end_within m f end (AroundCall t function caller rest ∷ around) outside = outside.0.height
end_within m f end (Entering function ∷ around) outside = absurd outside

-- the operands of a call, under open blocks and on them
placed_within
    : (m : Module) (f : Function) (s : Sequence) (now last : Walk) (operands : List Value) (around : List Around) → Placed now operands around → now.most ≤ last.most
    → TypedAround m f last around → length operands + in_frame around ≤ f.height
placed_within m f s now last operands around placed grows outside =
    let long = fit_length now.types operands placed.falls.1 in
    let high = end_within m f last around outside in
    omega (arith, long, placed.under, placed.counted, grows, high)

pub operands_within : (program : Program) (function : ℕ) (w : Pending) → (t : Typed program function w) → length w.state.operands + in_frame w.around ≤ t.runs.height
operands_within program function w t =
    let grows = typed_grows (context program.linked t.runs w.around) w.sequence t.now t.last t.sequence.goes in
    placed_within program.linked t.runs w.sequence t.now t.last w.state.operands w.around t.placed grows t.outside

pub opened_within : (program : Program) (function : ℕ) (w : Pending) → (t : Typed program function w) → open_in w.around ≤ t.runs.nest
opened_within program function w t = let nest = t.sequence.nest in omega (arith, nest)

zeros_result : (t : Option ValType) → (values : List Value) × AreOf (option_to_list t) values
zeros_result None = ([], tt)
zeros_result (Some t) = (zero_of t ∷ [], (has_value_of t 0, tt))

-- those of a function that called
pub caller_within
    : (m : Module) (t : Option ValType) (function : ℕ) (caller : Caller) (rest : Sequence) (around : List Around) → (c : CallerTyped m t function caller rest around)
    → TypedAround m c.runs c.last around → length caller.operands + in_frame around ≤ c.runs.height
caller_within m t function caller rest around c outside =
    let z = zeros_result t in
    let grows = typed_grows (context m c.runs around) rest c.now c.last c.sequence.goes in
    let high = placed_within m c.runs rest c.now c.last (z.0 ++ caller.operands) around (c.placed z.0 z.1) grows outside in
    omega (arith, high, length-append z.0 caller.operands)

-- Calls.

pub entries_call_none : (m : Module) (around : List Around) → OnlyEntries m around → calls_in around ≡ 0
entries_call_none m [] only = refl
entries_call_none m (AroundBlock t base rest ∷ around) only = absurd only
entries_call_none m (AroundLoop t base body rest ∷ around) only = absurd only
entries_call_none m (AroundCall t function caller rest ∷ around) only = absurd only
entries_call_none m (Entering function ∷ around) only = entries_call_none m around only.1

pub typed_calls : (m : Module) (f : Function) (end : Walk) (around : List Around) → TypedAround m f end around → 1 ≤ calls_in around
typed_calls m f end [] outside = absurd outside
typed_calls m f end (AroundBlock t base rest ∷ around) outside = typed_calls m f outside.0.last around outside.1
typed_calls m f end (AroundLoop t base body rest ∷ around) outside = typed_calls m f outside.0.last around outside.1
typed_calls m f end (AroundCall t function caller rest ∷ around) outside = omega arith
typed_calls m f end (Entering function ∷ around) outside = absurd outside
