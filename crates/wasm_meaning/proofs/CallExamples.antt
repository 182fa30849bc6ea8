-- Calls: arguments and results, the limits of frames and cells, and calls through the table with each of their traps.
use Rattle.std.proofs.Common.{◌≡◌, ℕ, [], ◌∷◌, List, Some, None, refl}
use Rattle.wasm_ops.specs.Sequence.{Sequence, Done, Plain, InIf}
use Rattle.wasm_ops.specs.declared.host_calls.HostName.TheVariants.{ProcExit}
use Rattle.wasm_ops.specs.declared.operators.Op.{Op}
use Rattle.wasm_ops.specs.declared.operators.Op.TheVariants.{Unreachable, Nop, Br, Return, Call, CallIndirect, LocalGet, ConstI32, ConstI64, Binary}
use Rattle.wasm_ops.specs.declared.traps.Trap.TheVariants.{UndefinedElement, UninitializedElement, TypeMismatch, StackExhausted}
use Rattle.wasm_ops.specs.declared.types.FuncType.{FuncType}
use Rattle.wasm_ops.specs.declared.types.ValType.TheVariants.{I32, I64}
use Rattle.wasm_meaning.proofs.Examples.{Line, line, function, bare_function, functions, inside, store_of, no_store, straight, shown, idle, run_first, ending, at_cost, each_paid}
use Rattle.wasm_meaning.specs.State.{Function, Instance, State, Fell, Trapped, Exited, Stuck}
use Rattle.wasm_meaning.specs.Values.{Int32, Int64}

-- the difference of two arguments, by falling off its end, by a return and by a branch to its own label; and a function that leaves its result out
abbrev difference_by : Op → Function
difference_by last = function (I32 ∷ I32 ∷ []) (I64 ∷ []) (Some I32) [] (straight (LocalGet 2 ∷ LocalGet 0 ∷ LocalGet 1 ∷ Binary 0x6B ∷ last ∷ Unreachable ∷ []))

abbrev callees : Instance
callees = functions (difference_by Nop ∷ difference_by Return ∷ difference_by (Br 0) ∷ function [] [] (Some I32) [] Done ∷ [])

abbrev calls : List Op → Line
calls ops = shown callees (inside no_store [] []) 100 (straight ops)

-- the arguments in their order; what lies under them stays, and what lies under the result in the function goes
by_return : calls (ConstI64 9 ∷ ConstI32 7 ∷ ConstI32 2 ∷ Call 1 ∷ []) ≡ line Fell (Int32 5 ∷ Int64 9 ∷ []) (each_paid 9)
by_return = refl

by_branch : calls (ConstI32 7 ∷ ConstI32 2 ∷ Call 2 ∷ []) ≡ line Fell (Int32 5 ∷ []) (each_paid 8)
by_branch = refl

-- an argument is missing, or of another type; a result is missing; no such function
lacks_argument : calls (ConstI32 2 ∷ Call 1 ∷ []) ≡ line Stuck (Int32 2 ∷ []) (each_paid 2)
lacks_argument = refl

other_argument : calls (ConstI32 2 ∷ ConstI64 2 ∷ Call 1 ∷ []) ≡ line Stuck (Int64 2 ∷ Int32 2 ∷ []) (each_paid 3)
other_argument = refl

lacks_result : calls (Call 3 ∷ []) ≡ line Stuck [] (each_paid 1)
lacks_result = refl

no_such_function : calls (Call 4 ∷ []) ≡ line Stuck [] (each_paid 1)
no_such_function = refl

-- Frames and cells.

-- a function that calls itself as often as its argument says
abbrev pub counting : Sequence
counting = Plain (LocalGet 0) (InIf None (Plain (LocalGet 0) (Plain (ConstI32 1) (Plain (Binary 0x6B) (Plain (Call 1) Done)))) Done)

abbrev pub deep : ℕ → Instance
deep n = functions (bare_function (Plain (ConstI32 n) (Plain (Call 1) Done)) ∷ function (I32 ∷ []) [] None [] counting ∷ [])

-- where so many frames are live, with so many cells
abbrev pub where_live : (frames cells : ℕ) → State
where_live frames cells = record (idle no_store) { frames = frames; cells = cells }

-- each depth but the last costs six units
ten_deep : ending (run_first (deep 10) (where_live 0 0) 1000) ≡ at_cost Fell 64
ten_deep = refl

-- the last of 4,096 frames
all_frames : ending (run_first (deep 10) (where_live 4084 0) 1000) ≡ at_cost Fell 64
all_frames = refl

-- one more traps, and the call that traps is paid
one_frame_more : ending (run_first (deep 10) (where_live 4085 0) 1000) ≡ at_cost (Trapped StackExhausted) 62
one_frame_more = refl

-- the first function has 3 cells and the other one 4: to the last of 65,536 cells, and one more
all_cells : ending (run_first (deep 0) (where_live 0 65529) 1000) ≡ at_cost Fell 4
all_cells = refl

one_cell_more : ending (run_first (deep 0) (where_live 0 65530) 1000) ≡ at_cost (Trapped StackExhausted) 2
one_cell_more = refl

-- an entering that traps costs nothing
entering_traps : ending (run_first (deep 0) (where_live 4096 0) 1000) ≡ at_cost (Trapped StackExhausted) 0
entering_traps = refl

-- Through the table.

abbrev bare_type : FuncType
bare_type = record { params = []; result = None }

abbrev number_type : FuncType
number_type = record { params = I32 ∷ I32 ∷ []; result = Some I32 }

abbrev exit_type : FuncType
exit_type = record { params = I32 ∷ []; result = None }

-- proc_exit, and a function of two parameters; in the table an empty place stands between them
abbrev with_table : Instance
with_table = record { types = bare_type ∷ number_type ∷ exit_type ∷ []; hosts = ProcExit ∷ []; defined = difference_by Return ∷ []; most = 0 }

abbrev through : List Op → Line
through ops = shown with_table (inside (store_of [] [] (Some 0 ∷ None ∷ Some 1 ∷ [])) [] []) 100 (straight ops)

found : through (ConstI32 7 ∷ ConstI32 2 ∷ ConstI32 2 ∷ CallIndirect 1 ∷ []) ≡ line Fell (Int32 5 ∷ []) (each_paid 9)
found = refl

past_the_table : through (ConstI32 3 ∷ CallIndirect 1 ∷ []) ≡ line (Trapped UndefinedElement) (Int32 3 ∷ []) (each_paid 2)
past_the_table = refl

empty_element : through (ConstI32 1 ∷ CallIndirect 1 ∷ []) ≡ line (Trapped UninitializedElement) (Int32 1 ∷ []) (each_paid 2)
empty_element = refl

other_type : through (ConstI32 7 ∷ ConstI32 2 ∷ ConstI32 2 ∷ CallIndirect 0 ∷ []) ≡ line (Trapped TypeMismatch) (Int32 2 ∷ Int32 2 ∷ Int32 7 ∷ []) (each_paid 4)
other_type = refl

-- a function of the host costs its own price alone, directly and through the table
host_directly : through (ConstI32 7 ∷ Call 0 ∷ []) ≡ line (Exited 7) [] (each_paid 2)
host_directly = refl

host_through_the_table : through (ConstI32 7 ∷ ConstI32 0 ∷ CallIndirect 2 ∷ []) ≡ line (Exited 7) [] (each_paid 3)
host_through_the_table = refl

host_of_other_type : through (ConstI32 7 ∷ ConstI32 0 ∷ CallIndirect 0 ∷ []) ≡ line (Trapped TypeMismatch) (Int32 0 ∷ Int32 7 ∷ []) (each_paid 3)
host_of_other_type = refl
