-- Flat forms of small bodies, place by place.
use Rattle.std.proofs.Common.{◌≡◌, [], ◌∷◌, Some, None, refl}
use Rattle.wasm_ops.specs.declared.types.ValType.TheVariants.{I32}
use Rattle.wasm_ops.specs.declared.operators.Op.TheVariants.{Nop, Block, Loop, If, Else, End, Br, ConstI32}
use Rattle.wasm_ops.specs.Sequence.{Done, Plain, InBlock, InLoop, InIf, InIfElse, flat_body}

-- an empty body is its closing `end` alone
empty : flat_body Done ≡ End ∷ []
empty = refl

-- nop, block, loop, br 0, end, end, end
loop_in_block
    : flat_body (Plain Nop (InBlock None (InLoop (Some I32) (Plain (Br 0) Done) Done) Done))
    ≡ Nop ∷ Block None 5 ∷ Loop (Some I32) 4 ∷ Br 0 ∷ End ∷ End ∷ End ∷ []
loop_in_block = refl

-- a choice with both sides knows its `else`, which knows the `end`
both_sides
    : flat_body (Plain (ConstI32 0) (InIfElse (Some I32) (Plain (ConstI32 1) Done) (Plain (ConstI32 2) (Plain Nop Done)) Done))
    ≡ ConstI32 0 ∷ If (Some I32) (Some 3) 6 ∷ ConstI32 1 ∷ Else 6 ∷ ConstI32 2 ∷ Nop ∷ End ∷ End ∷ []
both_sides = refl

-- a choice with one side, and what follows it
one_side
    : flat_body (Plain (ConstI32 1) (InIf None (Plain Nop Done) (Plain Nop Done)))
    ≡ ConstI32 1 ∷ If None None 3 ∷ Nop ∷ End ∷ Nop ∷ End ∷ []
one_side = refl
