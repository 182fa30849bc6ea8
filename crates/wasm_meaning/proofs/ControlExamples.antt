-- Control operators: branches out of blocks and back to loops, both ways of an `if`, and each way of a `br_table`.
use Rattle.std.proofs.Common.{◌≡◌, ℕ, [], ◌∷◌, Some, None, refl}
use Rattle.wasm_ops.specs.Sequence.{Sequence, Done, Plain, InBlock, InLoop, InIf, InIfElse}
use Rattle.wasm_ops.specs.declared.operators.Op.TheVariants.{Unreachable, Nop, Br, BrIf, BrTable, Return, ConstI32, ConstI64, Binary, Drop, LocalGet, LocalSet, LocalTee}
use Rattle.wasm_ops.specs.declared.traps.Trap.TheVariants as trap
use Rattle.wasm_ops.specs.declared.types.ValType.TheVariants.{I32, I64}
use Rattle.wasm_meaning.proofs.Examples.{Line, line, shown, inside, no_store, nothing, straight, each_paid}
use Rattle.wasm_meaning.specs.State.{Fell, Branched, Returned, Trapped, Stuck}
use Rattle.wasm_meaning.specs.Values.{Int32, Int64}

-- in a function with one local, an i32, and the labels 0, 1, 2 and the default 3 of a `br_table`
abbrev runs : Sequence → Line
runs s = shown nothing (inside no_store (Int32 3 ∷ []) (0 ∷ 1 ∷ 2 ∷ 3 ∷ [])) 100 s

nop : runs (Plain Nop Done) ≡ line Fell [] (each_paid 1)
nop = refl

unreachable : runs (Plain Unreachable (Plain Nop Done)) ≡ line (Trapped trap.Unreachable) [] (each_paid 1)
unreachable = refl

-- a block that falls off its end has its result on the operands around it
falls : runs (Plain (ConstI32 1) (InBlock (Some I32) (Plain (ConstI32 2) Done) (Plain (Binary 0x6A) Done))) ≡ line Fell (Int32 3 ∷ []) (each_paid 4)
falls = refl

-- a branch keeps the result and drops what is under it
branches : runs (Plain (ConstI32 1) (InBlock (Some I32) (straight (ConstI64 5 ∷ ConstI32 2 ∷ Br 0 ∷ Nop ∷ [])) (Plain (Binary 0x6A) Done))) ≡ line Fell (Int32 3 ∷ []) (each_paid 6)
branches = refl

-- out of two blocks: what stands behind the inner one is passed over
out_of_two
    : runs (InBlock (Some I32) (InBlock None (straight (ConstI32 7 ∷ Br 1 ∷ [])) (straight (Unreachable ∷ []))) Done)
    ≡ line Fell (Int32 7 ∷ []) (each_paid 4)
out_of_two = refl

-- a branch whose result is missing, or of another type
lacks_result : runs (InBlock (Some I32) (Plain (Br 0) Done) Done) ≡ line Stuck [] (each_paid 2)
lacks_result = refl

other_result : runs (InBlock (Some I32) (straight (ConstI64 1 ∷ Br 0 ∷ [])) Done) ≡ line Stuck (Int64 1 ∷ []) (each_paid 3)
other_result = refl

-- an operator does not reach under its block
reaches_under : runs (Plain (ConstI32 1) (InBlock None (Plain Drop Done) Done)) ≡ line Stuck [] (each_paid 3)
reaches_under = refl

-- three turns of a loop: the loop operator is paid in each
turns
    : runs (InLoop None (straight (LocalGet 0 ∷ ConstI32 1 ∷ Binary 0x6B ∷ LocalTee 0 ∷ BrIf 0 ∷ [])) (Plain (LocalGet 0) Done))
    ≡ line Fell (Int32 0 ∷ []) (each_paid 19)
turns = refl

-- a loop that falls off its end at once has its result on the operands
loop_falls : runs (InLoop (Some I64) (Plain (ConstI64 4) Done) Done) ≡ line Fell (Int64 4 ∷ []) (each_paid 2)
loop_falls = refl

-- a branch back takes nothing with it
branch_back
    : runs (Plain (ConstI64 9) (InLoop None (straight (LocalGet 0 ∷ ConstI32 0 ∷ LocalSet 0 ∷ BrIf 0 ∷ [])) Done))
    ≡ line Fell (Int64 9 ∷ []) (each_paid 11)
branch_back = refl

-- if without an else
if_taken : runs (Plain (ConstI32 1) (InIf None (Plain Nop Done) (Plain (ConstI32 5) Done))) ≡ line Fell (Int32 5 ∷ []) (each_paid 4)
if_taken = refl

if_passed : runs (Plain (ConstI32 0) (InIf None (Plain Unreachable Done) (Plain (ConstI32 5) Done))) ≡ line Fell (Int32 5 ∷ []) (each_paid 3)
if_passed = refl

-- if with an else
then_way : runs (Plain (ConstI32 2) (InIfElse (Some I32) (Plain (ConstI32 1) Done) (Plain (ConstI32 0) Done) Done)) ≡ line Fell (Int32 1 ∷ []) (each_paid 3)
then_way = refl

else_way : runs (Plain (ConstI32 0) (InIfElse (Some I32) (Plain (ConstI32 1) Done) (straight (ConstI32 0 ∷ Br 0 ∷ [])) Done)) ≡ line Fell (Int32 0 ∷ []) (each_paid 4)
else_way = refl

if_on_another_type : runs (Plain (ConstI64 1) (InIf None Done Done)) ≡ line Stuck (Int64 1 ∷ []) (each_paid 2)
if_on_another_type = refl

-- br_if
branch_not_taken : runs (InBlock None (straight (ConstI32 0 ∷ BrIf 0 ∷ Nop ∷ [])) Done) ≡ line Fell [] (each_paid 4)
branch_not_taken = refl

branch_taken : runs (InBlock None (straight (ConstI32 4294967295 ∷ BrIf 0 ∷ Nop ∷ [])) Done) ≡ line Fell [] (each_paid 3)
branch_taken = refl

-- in four blocks, of which each leaves the number of those outside of it that a branch has not left
abbrev table : (number : ℕ) → Line
table number =
    runs (InBlock None (InBlock None (InBlock None (InBlock None (straight (ConstI32 number ∷ BrTable 0 3 ∷ []))
    (straight (Nop ∷ []))) (straight (Nop ∷ []))) (straight (Nop ∷ []))) Done)

-- the first and the last label, the end, past it, and the greatest number without a sign
table_first : table 0 ≡ line Fell [] (each_paid 9)
table_first = refl

table_below : table 2 ≡ line Fell [] (each_paid 7)
table_below = refl

table_at_end : table 3 ≡ line Fell [] (each_paid 6)
table_at_end = refl

table_past_end : table 4 ≡ line Fell [] (each_paid 6)
table_past_end = refl

table_unsigned : table 4294967295 ≡ line Fell [] (each_paid 6)
table_unsigned = refl

-- a table of no labels has a default
default_alone : runs (InBlock None (InBlock None (InBlock None (InBlock None (straight (ConstI32 0 ∷ BrTable 3 0 ∷ [])) (Plain Unreachable Done)) (Plain Unreachable Done)) (Plain Unreachable Done)) (Plain Nop Done)) ≡ line Fell [] (each_paid 7)
default_alone = refl

-- return leaves all blocks
returns : runs (InBlock None (InLoop None (straight (ConstI32 1 ∷ Return ∷ [])) Done) (Plain Unreachable Done)) ≡ line Returned (Int32 1 ∷ []) (each_paid 4)
returns = refl

-- a branch to the function's own label leaves its body
own_label : runs (InBlock None (straight (Br 1 ∷ [])) (Plain Unreachable Done)) ≡ line (Branched 0) [] (each_paid 2)
own_label = refl
