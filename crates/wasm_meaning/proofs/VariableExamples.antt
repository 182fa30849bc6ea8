-- Parametric and variable operators.
use Rattle.std.proofs.Common.{◌≡◌, [], ◌∷◌, List, refl}
use Rattle.wasm_ops.specs.declared.operators.Op.{Op}
use Rattle.wasm_ops.specs.declared.operators.Op.TheVariants.{ConstI32, ConstI64, Drop, Select, LocalGet, LocalSet, LocalTee, GlobalGet, GlobalSet}
use Rattle.wasm_meaning.proofs.Examples.{Line, line, ran, shown, inside, store_of, straight, nothing, each_paid}
use Rattle.wasm_meaning.specs.State.{Fell, Stuck}
use Rattle.wasm_meaning.specs.Values.{Int32, Int64}

dropped : ran (ConstI32 1 ∷ ConstI64 2 ∷ Drop ∷ []) ≡ line Fell (Int32 1 ∷ []) (each_paid 3)
dropped = refl

nothing_to_drop : ran (Drop ∷ []) ≡ line Stuck [] (each_paid 1)
nothing_to_drop = refl

-- the first value where the number is not 0, and else the second
selects_first : ran (ConstI64 5 ∷ ConstI64 6 ∷ ConstI32 9 ∷ Select ∷ []) ≡ line Fell (Int64 5 ∷ []) (each_paid 4)
selects_first = refl

selects_second : ran (ConstI32 5 ∷ ConstI32 6 ∷ ConstI32 0 ∷ Select ∷ []) ≡ line Fell (Int32 6 ∷ []) (each_paid 4)
selects_second = refl

select_of_two_types : ran (ConstI32 5 ∷ ConstI64 6 ∷ ConstI32 0 ∷ Select ∷ []) ≡ line Stuck (Int32 0 ∷ Int64 6 ∷ Int32 5 ∷ []) (each_paid 4)
select_of_two_types = refl

-- an i32 and an i64 as locals, and as globals
abbrev with_variables : List Op → Line
with_variables ops = shown nothing (inside (store_of [] (Int32 3 ∷ Int64 4 ∷ []) []) (Int32 1 ∷ Int64 2 ∷ []) []) 100 (straight ops)

local_read : with_variables (LocalGet 1 ∷ LocalGet 0 ∷ []) ≡ line Fell (Int32 1 ∷ Int64 2 ∷ []) (each_paid 2)
local_read = refl

local_set_and_read : with_variables (ConstI32 8 ∷ LocalSet 0 ∷ LocalGet 0 ∷ []) ≡ line Fell (Int32 8 ∷ []) (each_paid 3)
local_set_and_read = refl

local_teed : with_variables (ConstI64 8 ∷ LocalTee 1 ∷ LocalGet 1 ∷ []) ≡ line Fell (Int64 8 ∷ Int64 8 ∷ []) (each_paid 3)
local_teed = refl

local_of_another_type : with_variables (ConstI64 8 ∷ LocalSet 0 ∷ []) ≡ line Stuck (Int64 8 ∷ []) (each_paid 2)
local_of_another_type = refl

no_such_local : with_variables (LocalGet 2 ∷ []) ≡ line Stuck [] (each_paid 1)
no_such_local = refl

global_read : with_variables (GlobalGet 1 ∷ []) ≡ line Fell (Int64 4 ∷ []) (each_paid 1)
global_read = refl

global_set_and_read : with_variables (ConstI32 8 ∷ GlobalSet 0 ∷ GlobalGet 0 ∷ []) ≡ line Fell (Int32 8 ∷ []) (each_paid 3)
global_set_and_read = refl

global_of_another_type : with_variables (ConstI32 8 ∷ GlobalSet 1 ∷ []) ≡ line Stuck (Int32 8 ∷ []) (each_paid 2)
global_of_another_type = refl
