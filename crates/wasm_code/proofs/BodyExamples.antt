-- Items and locals of small bodies, place by place.
use Rattle.std.proofs.Common.{◌≡◌, [], ◌∷◌, Some, Ok, Err, refl}
use Rattle.wasm_ops.specs.declared.faults.Refusal.TheVariants.{CutShort}
use Rattle.wasm_ops.specs.declared.faults.Refusal.TheVariants as refusal
use Rattle.wasm_ops.specs.declared.operators.Op.TheVariants as op
use Rattle.wasm_ops.specs.declared.types.ValType.TheVariants.{I32, I64}
use Rattle.wasm_ops.specs.Refusals.{fault_at}
use Rattle.wasm_code.specs.declared.items.Item.TheVariants as item
use Rattle.wasm_code.specs.declared.items.Opener.TheVariants as opener
use Rattle.wasm_code.specs.Items.{item_from}
use Rattle.wasm_code.specs.Locals.{locals_from}

-- local.get 3 in a padded spelling
padded_index
    : item_from 0 [] (record { at = 1; left = 0x20 ∷ 0x83 ∷ 0x00 ∷ 0x0B ∷ []; cut = CutShort })
    ≡ Ok ((item.Operator (op.LocalGet 3), []), record { at = 4; left = 0x0B ∷ []; cut = CutShort })
padded_index = refl

-- br_table 1 0, behind four labels
branch_table
    : item_from 0 (7 ∷ 7 ∷ 7 ∷ 7 ∷ []) (record { at = 5; left = 0x0E ∷ 0x01 ∷ 0x01 ∷ 0x00 ∷ []; cut = CutShort })
    ≡ Ok ((item.Operator (op.BrTable 4 1), 7 ∷ 7 ∷ 7 ∷ 7 ∷ 1 ∷ 0 ∷ []), record { at = 9; left = []; cut = CutShort })
branch_table = refl

-- a loop with a result, and one that is too deep, whatever its type
opening : item_from 999 [] (record { at = 1; left = 0x03 ∷ 0x7E ∷ []; cut = CutShort }) ≡ Ok ((item.Opens opener.Loop (Some I64), []), record { at = 3; left = []; cut = CutShort })
opening = refl

too_deep : item_from 1000 [] (record { at = 1; left = 0x03 ∷ 0x00 ∷ []; cut = CutShort }) ≡ Err (fault_at refusal.TooDeep 1)
too_deep = refl

-- f32.add, a byte that begins nothing, and a memory.size whose last byte is not 00
float : item_from 0 [] (record { at = 1; left = 0x92 ∷ []; cut = CutShort }) ≡ Err (fault_at refusal.FloatOperator 1)
float = refl

unknown : item_from 0 [] (record { at = 1; left = 0x06 ∷ []; cut = CutShort }) ≡ Err (fault_at refusal.UnknownOperator 1)
unknown = refl

reserved : item_from 0 [] (record { at = 1; left = 0x3F ∷ 0x01 ∷ []; cut = CutShort }) ≡ Err (fault_at refusal.Reserved 2)
reserved = refl

-- the prefix of a float operator and of one that is not known, whatever is behind its number
saturated : item_from 0 [] (record { at = 1; left = 0xFC ∷ 0x07 ∷ []; cut = CutShort }) ≡ Err (fault_at refusal.FloatOperator 1)
saturated = refl

no_such : item_from 0 [] (record { at = 1; left = 0xFC ∷ 0x08 ∷ []; cut = CutShort }) ≡ Err (fault_at refusal.UnknownOperator 1)
no_such = refl

-- call_indirect of the only table, whose index is padded, and of another one
indirect
    : item_from 0 [] (record { at = 1; left = 0x11 ∷ 0x02 ∷ 0x80 ∷ 0x00 ∷ []; cut = CutShort })
    ≡ Ok ((item.Operator (op.CallIndirect 2), []), record { at = 5; left = []; cut = CutShort })
indirect = refl

other_table : item_from 0 [] (record { at = 1; left = 0x11 ∷ 0x02 ∷ 0x81 ∷ 0x00 ∷ []; cut = CutShort }) ≡ Err (fault_at refusal.Reserved 3)
other_table = refl

-- two groups of locals, and a group by which there are too many
groups
    : locals_from (record { at = 0; left = 0x02 ∷ 0x02 ∷ 0x7F ∷ 0x01 ∷ 0x7E ∷ 0x0B ∷ []; cut = CutShort })
    ≡ Ok (I32 ∷ I32 ∷ I64 ∷ [], record { at = 5; left = 0x0B ∷ []; cut = CutShort })
groups = refl

too_many : locals_from (record { at = 0; left = 0x01 ∷ 0x81 ∷ 0x08 ∷ 0x7F ∷ []; cut = CutShort }) ≡ Err (fault_at refusal.TooManyLocals 1)
too_many = refl
