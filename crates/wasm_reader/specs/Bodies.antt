-- The bodies of a module's functions, each in a window of its own (WebAssembly Core 1.0, section 5.5.13).
use Rattle.std.specs.Prelude.{◌≡◌, ℕ, ◌+◌, ◌==◌, if◌then◌else◌, List, [], Option, Some, None, Result, Ok, Err}
use Rattle.wasm_ops.specs.declared.faults.Fault.{Fault}
use Rattle.wasm_ops.specs.declared.faults.Refusal.TheVariants.{CutShort, CountsDiffer}
use Rattle.wasm_ops.specs.declared.modules.Body.{Body}
use Rattle.wasm_ops.specs.Input.{Input, end_of}
use Rattle.wasm_code.specs.Bodies.{SpellsBody, RefusesBody, body_from}
use Rattle.wasm_code.specs.Reading.{Read}
use Rattle.wasm_reader.specs.Syntax.{Syntax, number, checked, or_fault, items, inside, ◌⨾◌}

-- a fault of bytes that stand at a place of the file
abbrev pub moved : (at : ℕ) → Fault → Fault
moved at fault = record { number = fault.number; place = at + fault.place }

-- the bytes of a body, from a place of the file on
abbrev pub from_place : (at : ℕ) → List ℕ → Input
from_place at bytes = record { at = at; left = bytes; cut = CutShort }

-- the place behind all that is left
abbrev pub end_place : Input → Input
end_place before = record { at = end_of before; left = []; cut = before.cut }

-- what the bytes are as a body, in the file
abbrev pub body_answer : (at : ℕ) → Input → Result Body Fault → Read Body
body_answer at after (Ok body) = Ok (body, after)
body_answer at after (Err fault) = Err (moved at fault)

-- a body, which takes all bytes that are left
abbrev pub body : Syntax Body
body = record {
  Reads = λ before x after. SpellsBody before.left x × (after ≡ end_place before);
  Refuses = λ before fault. (first : Fault) × RefusesBody before.left first × (fault ≡ moved before.at first);
  read = λ before. body_answer before.at (end_place before) (body_from before.left);
}

-- the size of a body, and in a window of that size the body
abbrev pub sized_body : Syntax Body
sized_body = number ⨾ λ size. inside size CutShort body

-- as many bodies as there are functions
abbrev pub same_count : (functions count : ℕ) → Option ℕ
same_count functions count = if count == functions then Some count else None

abbrev pub bodies : (functions : ℕ) → Syntax (List Body)
bodies functions = checked (same_count functions) (or_fault CountsDiffer) number ⨾ λ count. items count (λ so_far. sized_body)
