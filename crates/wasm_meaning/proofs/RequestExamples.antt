-- Requests to whole modules: verdict and units.
use Rattle.std.proofs.Common.{◌≡◌, ℕ, [], ◌∷◌, List, Option, Some, None, codes, replicate, refl}
use Rattle.std.specs.Prelude.{true, false}
use Rattle.wasm_ops.specs.Sequence.{Sequence, Done, Plain, InBlock, InLoop, InIf}
use Rattle.wasm_ops.specs.declared.modules.ImportItem.TheVariants as item
use Rattle.wasm_ops.specs.declared.modules.Module.{Module}
use Rattle.wasm_ops.specs.declared.operators.Op.TheVariants.{Unreachable, Br, BrIf, Call, CallIndirect, Drop, LocalGet, LocalTee, GlobalGet, GlobalSet, Load, Store, ConstI32, Unary, Binary}
use Rattle.wasm_ops.specs.declared.traps.Trap.TheVariants as trap
use Rattle.wasm_ops.specs.declared.types.ValType.TheVariants.{I32}
use Rattle.wasm_meaning.proofs.Examples.{straight}
use Rattle.wasm_meaning.proofs.Modules.{bare, transfer, start_at, from_host, i32, pages, alone, body_of, access}
use Rattle.wasm_meaning.specs.Programs.{defined}
use Rattle.wasm_meaning.specs.Requests.{Request, Verdict, Replied, Exit, Trap, BudgetSpent, verdict, units}

-- a verdict and its units
record Row : Type 0 where
  verdict_is : Option Verdict
  units_are : ℕ

abbrev row : Verdict → ℕ → Row
row verdict units = record { verdict_is = Some verdict; units_are = units }

abbrev asked : Request → Row
asked request = record { verdict_is = verdict request; units_are = units request }

abbrev answer : Module → (pages : ℕ) → (body : List ℕ) → (budget : ℕ) → Row
answer m pages body budget = asked (record { program = record { linked = m; pages = pages }; body = body; budget = budget })

-- a function that does nothing, one that traps, and one that turns without end
nothing : answer (alone Done) 1 [] 10 ≡ row (Replied []) 0
unfolding defined
nothing = refl

traps : answer (alone (Plain Unreachable Done)) 1 [] 10 ≡ row (Trap trap.Unreachable) 1
unfolding defined
traps = refl

traps_without_budget : answer (alone (Plain Unreachable Done)) 1 [] 0 ≡ row BudgetSpent 0
unfolding defined
traps_without_budget = refl

turns : answer (alone (InLoop None (Plain (Br 0) Done) Done)) 1 [] 1000 ≡ row BudgetSpent 1000
unfolding defined
turns = refl

-- a function that calls itself as often as its argument says: six units each time, and four
abbrev counting : Sequence
counting = Plain (LocalGet 0) (InIf None (straight (LocalGet 0 ∷ ConstI32 1 ∷ Binary 0x6B ∷ Call 1 ∷ [])) Done)

abbrev recursive : ℕ → Module
recursive n = record (alone Done) {
  types = bare ∷ record { params = I32 ∷ []; result = None } ∷ [];
  functions = 0 ∷ 1 ∷ [];
  bodies = body_of [] (straight (ConstI32 n ∷ Call 1 ∷ [])) ∷ body_of [] counting ∷ [];
}

calls_itself : answer (recursive 20) 1 [] 1000 ≡ row (Replied []) 124
unfolding defined
calls_itself = refl

-- the start function sets a global and leaves with a code; `_start` is not entered
abbrev with_start : Sequence → Module
with_start s = record (alone Done) {
  types = bare ∷ record { params = I32 ∷ []; result = None } ∷ [];
  imports = from_host (codes "proc_exit") (item.Function 1) ∷ [];
  functions = 0 ∷ 0 ∷ [];
  globals = record { value = I32; mutable = true; first = i32 5 } ∷ [];
  exports = start_at 2;
  start = Some 1;
  bodies = body_of [] s ∷ body_of [] (straight (GlobalGet 0 ∷ Call 0 ∷ [])) ∷ [];
}

exits : answer (with_start (straight (GlobalGet 0 ∷ ConstI32 1 ∷ Binary 0x6A ∷ Call 0 ∷ []))) 1 [] 10 ≡ row (Exit 6 []) 4
unfolding defined
exits = refl

-- what the start function has set, `_start` finds
enters_both : answer (with_start (straight (ConstI32 8 ∷ GlobalSet 0 ∷ []))) 1 [] 10 ≡ row (Exit 8 []) 4
unfolding defined
enters_both = refl

spent_in_the_second : answer (with_start (straight (ConstI32 8 ∷ GlobalSet 0 ∷ []))) 1 [] 3 ≡ row BudgetSpent 3
unfolding defined
spent_in_the_second = refl

-- the reply is 16 bytes of unwritten memory
abbrev zeros_back : Module
zeros_back = record (alone Done) {
  types = transfer ∷ bare ∷ [];
  imports = from_host (codes "fd_write") (item.Function 0) ∷ [];
  functions = 1 ∷ [];
  memories = pages 1 None;
  exports = start_at 1;
  bodies = body_of [] (straight (
      ConstI32 0 ∷ ConstI32 1024 ∷ Store (access I32 4 false) 2 0
      ∷ ConstI32 0 ∷ ConstI32 16 ∷ Store (access I32 4 false) 2 4
      ∷ ConstI32 1 ∷ ConstI32 0 ∷ ConstI32 1 ∷ ConstI32 8 ∷ Call 0 ∷ Drop ∷ [])) ∷ [];
}

unwritten : answer zeros_back 1 [] 100 ≡ row (Replied (replicate 16 0)) 13
unfolding defined
unwritten = refl

-- the same over a data segment, and a table whose element is called
abbrev told : Module
told = record zeros_back {
  tables = pages 2 None;
  elements = record { table = 0; offset = i32 1; functions = 2 ∷ [] } ∷ [];
  functions = 1 ∷ 1 ∷ [];
  bodies = body_of [] (straight (ConstI32 1 ∷ CallIndirect 1 ∷ [])) ∷ zeros_back.bodies;
  segments = record { memory = 0; offset = i32 1025; bytes = 7 ∷ 8 ∷ [] } ∷ [];
}

data_and_table : answer told 1 [] 100 ≡ row (Replied (0 ∷ 7 ∷ 8 ∷ replicate 13 0)) 15
unfolding defined
data_and_table = refl

-- an echo: it reads as many bytes as are there into a buffer of 1,024 bytes, and writes them, until there are none; its frame lies above the buffer
abbrev echo : Module
echo = record (alone Done) {
  types = transfer ∷ bare ∷ [];
  imports = from_host (codes "fd_read") (item.Function 0) ∷ from_host (codes "fd_write") (item.Function 0) ∷ [];
  functions = 1 ∷ [];
  memories = pages 2 None;
  globals = record { value = I32; mutable = true; first = i32 66560 } ∷ [];
  exports = record { name = codes "memory"; kind = 2; index = 0 } ∷ start_at 2;
  bodies = body_of [] (
      Plain (GlobalGet 0) (Plain (ConstI32 16) (Plain (Binary 0x6B) (Plain (LocalTee 0) (Plain (GlobalSet 0)
      (InBlock None (InLoop None (straight (
      LocalGet 0 ∷ ConstI32 1024 ∷ Store (access I32 4 false) 2 8
      ∷ LocalGet 0 ∷ ConstI32 1024 ∷ Store (access I32 4 false) 2 12
      ∷ ConstI32 0 ∷ LocalGet 0 ∷ ConstI32 8 ∷ Binary 0x6A ∷ ConstI32 1 ∷ LocalGet 0 ∷ ConstI32 4 ∷ Binary 0x6A ∷ Call 0 ∷ BrIf 1
      ∷ LocalGet 0 ∷ Load (access I32 4 false) 2 4 ∷ Unary 0x45 ∷ BrIf 1
      ∷ LocalGet 0 ∷ LocalGet 0 ∷ Load (access I32 4 false) 2 4 ∷ Store (access I32 4 false) 2 12
      ∷ ConstI32 1 ∷ LocalGet 0 ∷ ConstI32 8 ∷ Binary 0x6A ∷ ConstI32 1 ∷ LocalGet 0 ∷ ConstI32 4 ∷ Binary 0x6A ∷ Call 1
      ∷ Unary 0x45 ∷ BrIf 0 ∷ []))
      Done) (straight (LocalGet 0 ∷ ConstI32 16 ∷ Binary 0x6A ∷ GlobalSet 0 ∷ []))))))))
      ∷ [];
}

echoes_nothing : answer echo 2 [] 1000 ≡ row (Replied []) 32
unfolding defined
echoes_nothing = refl

echoes : answer echo 2 (codes "hi!") 1000 ≡ row (Replied (codes "hi!")) 70
unfolding defined
echoes = refl
