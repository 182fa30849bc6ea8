-- What a reply says of each trap (WebAssembly Core 1.0, section 4.2.2). The words are those of the test suite of WebAssembly Core 1.0.
use Rattle.std.specs.Prelude.{ℕ, List, codes}
use Rattle.wasm_ops.specs.declared.traps.Trap.{Trap}
use Rattle.wasm_ops.specs.declared.traps.Trap.TheVariants.{Unreachable, DivideByZero, IntegerOverflow, OutOfBounds, UndefinedElement, UninitializedElement, TypeMismatch, StackExhausted}

-- the bytes of the text
abbrev pub trap_text : Trap → List ℕ
trap_text Unreachable = codes "unreachable"
trap_text DivideByZero = codes "integer divide by zero"
trap_text IntegerOverflow = codes "integer overflow"
trap_text OutOfBounds = codes "out of bounds memory access"
trap_text UndefinedElement = codes "undefined element"
trap_text UninitializedElement = codes "uninitialized element"
trap_text TypeMismatch = codes "indirect call type mismatch"
trap_text StackExhausted = codes "call stack exhausted"
