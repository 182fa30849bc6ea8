-- The walk over flat operators, one after another, with the open blocks on a stack (WebAssembly Core 1.0, appendix A.3).
use Rattle.std.specs.Prelude.{◌+◌, max, List, [], ◌∷◌, length, Option, Some, None, Result, Ok}
use Rattle.wasm_ops.specs.declared.types.ValType.{ValType}
use Rattle.wasm_ops.specs.declared.types.ValType.TheVariants.{I32}
use Rattle.wasm_ops.specs.declared.operators.Op.{Op}
use Rattle.wasm_ops.specs.declared.operators.Op.TheVariants as op
use Rattle.wasm_meaning.specs.declared.blocks.BlockKind.{BlockKind}
use Rattle.wasm_meaning.specs.declared.blocks.BlockKind.TheVariants.{BlockBody, LoopBody, ThenBranch, ElseBranch}
use Rattle.wasm_meaning.specs.declared.violations.Violation.{Violation}
use Rattle.wasm_meaning.specs.ValidityChecks.{go_on}
use Rattle.wasm_meaning.specs.TypingOperands.{Walk, start, take_off, lay_result}
use Rattle.wasm_meaning.specs.Typing.{Context, plain, next, enter, ended, back, body_typed, nest_of}
use Rattle.wasm_ops.specs.declared.modules.Module.{Module}
use Rattle.wasm_ops.specs.declared.modules.Body.{Body}
use Rattle.wasm_ops.specs.declared.types.FuncType.{FuncType}
use Rattle.wasm_typing.specs.declared.measures.Measure.{Measure}
use Rattle.wasm_typing.specs.declared.stages.Stage.{Stage}
use Rattle.wasm_typing.specs.declared.stages.Stage.TheVariants.{Inside, Over}
use Rattle.wasm_typing.specs.Open.{Block, Open}
use Rattle.wasm_typing.specs.Scopes.{inside}

-- Opening.

-- a block of this kind, where this is the list around it
abbrev pub block_in : BlockKind → Option ValType → Walk → Block
block_in kind result outer = record { kind = kind; result = result; under = outer.under; types = outer.types; loose = outer.loose }

abbrev pub opened : BlockKind → Option ValType → Open → Open
opened kind result o = record {
  now = enter o.now;
  blocks = record { around = block_in kind result o.now ∷ o.blocks.around; deepest = max o.blocks.deepest (length o.blocks.around + 1) };
}

-- Closing.

-- the kind and the result of the inmost block
abbrev pub inmost_of : List Block → Option (BlockKind × Option ValType)
inmost_of [] = None
inmost_of (b ∷ around) = Some (b.kind, b.result)

-- the list around a block; its place and its greatest length are those of the end of the block
abbrev pub outer_of : Block → Walk
outer_of b = record { place = 0; under = b.under; types = b.types; loose = b.loose; most = 0 }

-- the block around is the one at hand again
abbrev pub left_of : List Block → Open → Open
left_of [] o = o
left_of (b ∷ around) o = record { now = back (outer_of b) o.now; blocks = record { around = around; deepest = o.blocks.deepest } }

abbrev pub left : Open → Open
left o = left_of o.blocks.around o

-- behind a block, whose result is laid
abbrev pub behind : Option ValType → Open → Open
behind result o = record o { now = next (lay_result result o.now) }

-- Each operator.

abbrev pub Step : Type 0
Step = Result (Stage × Open) Violation

abbrev pub goes_on : Open → Step
goes_on o = Ok (Inside, o)

abbrev pub close_by : Context → Option (BlockKind × Option ValType) → Open → Step
close_by cx None o = go_on (ended BlockBody cx.result o.now) (λ done. Ok (Over, record o { now = done }))
close_by cx (Some block) o =
    go_on (ended block.0 block.1 o.now) (λ done. goes_on (behind block.1 (left (record o { now = done }))))

abbrev pub close : Context → Open → Step
close cx o = close_by cx (inmost_of o.blocks.around) o

-- behind the first part of an `if`, at the first operator of the second one
abbrev pub turn_by : Option (BlockKind × Option ValType) → Open → Step
turn_by None o = Ok (Over, o)
turn_by (Some block) o = go_on (ended ElseBranch block.1 o.now) (λ done. goes_on (opened ElseBranch block.1 (left (record o { now = done }))))

abbrev pub turn_over : Open → Step
turn_over o = turn_by (inmost_of o.blocks.around) o

abbrev pub open_if : Option ValType → Open → Step
open_if result o = go_on (take_off (Some I32) o.now) (λ outer. goes_on (opened ThenBranch result (record o { now = outer })))

abbrev pub pass : Context → Op → Open → Step
pass cx o walk = go_on (plain (inside cx walk.blocks.around) o walk.now) (λ after. goes_on (record walk { now = next after }))

abbrev pub step : Context → Op → Open → Step
step cx (op.Block result end) walk = goes_on (opened BlockBody result walk)
step cx (op.Loop result end) walk = goes_on (opened LoopBody result walk)
step cx (op.If result other end) walk = open_if result walk
step cx (op.Else end) walk = turn_over walk
step cx op.End walk = close cx walk
step cx o walk = pass cx o walk

-- All operators, up to the end of the body.

abbrev pub go_further : Stage → Open → (Open → Result Open Violation) → Result Open Violation
go_further Inside walk further = further walk
go_further Over walk further = Ok walk

abbrev pub steps : Context → List Op → Open → Result Open Violation
steps cx [] walk = Ok walk
steps cx (o ∷ ops) walk = go_on (step cx o walk) (λ made. go_further made.0 made.1 (λ next. steps cx ops next))

-- before the first operator of a body
abbrev pub begun : Open
begun = record { now = start; blocks = record { around = []; deepest = 0 } }

-- What is measured.

abbrev pub measure_of : Open → Measure
measure_of walk = record { height = walk.now.most; nest = walk.blocks.deepest }

abbrev pub measured : Result Open Violation → Result Measure Violation
measured walk = go_on walk (λ done. Ok (measure_of done))

-- the greatest height and depth of a body, or the rule that it breaks first
abbrev pub body_measured : Module → FuncType → Body → Result Measure Violation
body_measured m type body = go_on (body_typed m type body) (λ walk. Ok (record { height = walk.most; nest = nest_of body }))
