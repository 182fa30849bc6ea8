-- What belongs to the frame of the function that runs: the blocks that are open in it, and the operands under them.
use Rattle.std.specs.Prelude.{ℕ, ◌+◌, List, [], ◌∷◌, length, Option, None}
use Rattle.wasm_ops.specs.declared.modules.Module.{Module}
use Rattle.wasm_ops.specs.declared.types.ValType.{ValType}
use Rattle.wasm_meaning.specs.Fitting.{inside}
use Rattle.wasm_meaning.specs.Pending.{Around, AroundBlock, AroundLoop, AroundCall, Entering}
use Rattle.wasm_meaning.specs.State.{Function}
use Rattle.wasm_meaning.specs.Typing.{Context}

-- how many operands lie under the block at hand, in the frame of the same call
abbrev pub in_frame : List Around → ℕ
in_frame [] = 0
in_frame (AroundBlock t base rest ∷ around) = length base + in_frame around
in_frame (AroundLoop t base body rest ∷ around) = length base + in_frame around
in_frame (AroundCall t function caller rest ∷ around) = 0
in_frame (Entering function ∷ around) = 0

-- how many blocks are open in the same call
abbrev pub open_in : List Around → ℕ
open_in [] = 0
open_in (AroundBlock t base rest ∷ around) = 1 + open_in around
open_in (AroundLoop t base body rest ∷ around) = 1 + open_in around
open_in (AroundCall t function caller rest ∷ around) = 0
open_in (Entering function ∷ around) = 0

-- how many calls are live
abbrev pub calls_in : List Around → ℕ
calls_in [] = 0
calls_in (AroundBlock t base rest ∷ around) = calls_in around
calls_in (AroundLoop t base body rest ∷ around) = calls_in around
calls_in (AroundCall t function caller rest ∷ around) = 1 + calls_in around
calls_in (Entering function ∷ around) = calls_in around

-- the number of the function that called, 0 where none did
abbrev pub caller_in : List Around → ℕ
caller_in [] = 0
caller_in (AroundBlock t base rest ∷ around) = caller_in around
caller_in (AroundLoop t base body rest ∷ around) = caller_in around
caller_in (AroundCall t function caller rest ∷ around) = function
caller_in (Entering function ∷ around) = 0

-- the operand that a branch to each label takes, the inmost label first; the outermost one is the function's own
abbrev pub labels_in : Function → List Around → List (Option ValType)
labels_in f [] = f.result ∷ []
labels_in f (AroundBlock t base rest ∷ around) = t ∷ labels_in f around
labels_in f (AroundLoop t base body rest ∷ around) = None ∷ labels_in f around
labels_in f (AroundCall t function caller rest ∷ around) = f.result ∷ []
labels_in f (Entering function ∷ around) = f.result ∷ []

-- what the rules of typing speak of, inside these blocks of a function
abbrev pub context : Module → Function → List Around → Context
context m f around = record (inside m f) { labels = labels_in f around }
