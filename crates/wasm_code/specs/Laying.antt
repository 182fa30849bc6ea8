-- How the flat form of a body grows item by item: what opens a block learns its places where the block ends (WebAssembly Core 1.0, section 5.4.1).
use Rattle.std.specs.Prelude.{ℕ, ◌<◌, List, [], ◌∷◌, ◌++◌, length, slice_set, Option, Some, None}
use Rattle.wasm_ops.specs.declared.operators.Op.{Op}
use Rattle.wasm_ops.specs.declared.operators.Op.TheVariants as op
use Rattle.wasm_ops.specs.declared.types.ValType.{ValType}
use Rattle.wasm_code.specs.declared.items.Item.{Item}
use Rattle.wasm_code.specs.declared.items.Item.TheVariants as item
use Rattle.wasm_code.specs.declared.items.Opener.{Opener}
use Rattle.wasm_code.specs.declared.items.Opener.TheVariants as opener
use Rattle.wasm_code.specs.declared.items.Kind.{Kind}
use Rattle.wasm_code.specs.declared.items.Kind.TheVariants as kind
use Rattle.wasm_code.specs.declared.blocks.Stage.{Stage}
use Rattle.wasm_code.specs.declared.blocks.Stage.TheVariants as stage
use Rattle.wasm_code.specs.declared.blocks.OpenBlock.{OpenBlock}
use Rattle.wasm_code.specs.declared.blocks.Standing.{Standing}
use Rattle.wasm_code.specs.declared.blocks.Standing.TheVariants.{Inside, Misplaced, Last}

-- the operators so far, with 0 for a place that is not known yet, and the open blocks, the inmost first
pub record Laid : Type 0 where
  pub ops : List Op
  pub blocks : List OpenBlock

abbrev pub opening : Opener → Option ValType → Op
opening opener.Block result = op.Block result 0
opening opener.Loop result = op.Loop result 0
opening opener.If result = op.If result None 0

abbrev pub first_stage : Opener → Stage
first_stage opener.Block = stage.Block
first_stage opener.Loop = stage.Loop
first_stage opener.If = stage.Then

abbrev pub kind_of_stage : Stage → Kind
kind_of_stage stage.Block = kind.Block
kind_of_stage stage.Loop = kind.Loop
kind_of_stage stage.Then = kind.Then
kind_of_stage (stage.Else divide) = kind.Else

abbrev pub kinds_of : List OpenBlock → List Kind
kinds_of [] = []
kinds_of (block ∷ blocks) = kind_of_stage block.stage ∷ kinds_of blocks

-- where an `else` stands that comes in this part of a block
abbrev pub else_standing : Stage → Standing
else_standing stage.Then = Inside
else_standing stage.Block = Misplaced
else_standing stage.Loop = Misplaced
else_standing (stage.Else divide) = Misplaced

-- where an item stands, with these blocks open
abbrev pub standing_of : Item → List Kind → Standing
standing_of (item.Operator o) blocks = Inside
standing_of (item.Opens w result) blocks = Inside
standing_of item.Else [] = Misplaced
standing_of item.Else (kind.Block ∷ blocks) = Misplaced
standing_of item.Else (kind.Loop ∷ blocks) = Misplaced
standing_of item.Else (kind.Then ∷ blocks) = Inside
standing_of item.Else (kind.Else ∷ blocks) = Misplaced
standing_of item.End [] = Last
standing_of item.End (inmost ∷ blocks) = Inside

-- the operators that learn where a block ends stand among so many
abbrev pub IsElsePlaced : (count : ℕ) → Stage → Type 0
IsElsePlaced count stage.Block = Unit {0}
IsElsePlaced count stage.Loop = Unit {0}
IsElsePlaced count stage.Then = Unit {0}
IsElsePlaced count (stage.Else divide) = divide < count

abbrev pub IsPlaced : (count : ℕ) → OpenBlock → Type 0
IsPlaced count block = (block.at < count) × IsElsePlaced count block.stage

abbrev pub ArePlaced : (count : ℕ) → List OpenBlock → Type 0
ArePlaced count [] = Unit {0}
ArePlaced count (block ∷ blocks) = IsPlaced count block × ArePlaced count blocks

-- the operators in which a block that ends at a place knows it
abbrev pub filled : Stage → Option ValType → (at end : ℕ) → List Op → List Op
filled stage.Block result at end ops = slice_set ops at (op.Block result end)
filled stage.Loop result at end ops = slice_set ops at (op.Loop result end)
filled stage.Then result at end ops = slice_set ops at (op.If result None end)
filled (stage.Else divide) result at end ops = slice_set (slice_set ops at (op.If result (Some divide) end)) divide (op.Else end)

abbrev pub divided : List Op → List OpenBlock → Laid
divided ops [] = record { ops = ops; blocks = [] }
divided ops (block ∷ blocks) =
    record { ops = ops ++ op.Else 0 ∷ []; blocks = record { stage = stage.Else (length ops); result = block.result; at = block.at } ∷ blocks }

abbrev pub closed : List Op → List OpenBlock → Laid
closed ops [] = record { ops = ops ++ op.End ∷ []; blocks = [] }
closed ops (block ∷ blocks) = record { ops = filled block.stage block.result block.at (length ops) ops ++ op.End ∷ []; blocks = blocks }

abbrev pub with_item : Item → Laid → Laid
with_item (item.Operator o) laid = record { ops = laid.ops ++ o ∷ []; blocks = laid.blocks }
with_item (item.Opens w result) laid =
    record { ops = laid.ops ++ opening w result ∷ []; blocks = record { stage = first_stage w; result = result; at = length laid.ops } ∷ laid.blocks }
with_item item.Else laid = divided laid.ops laid.blocks
with_item item.End laid = closed laid.ops laid.blocks

abbrev pub with_items : List Item → Laid → Laid
with_items [] laid = laid
with_items (passed ∷ items) laid = with_items items (with_item passed laid)

-- before the first item
abbrev pub nothing : Laid
nothing = record { ops = []; blocks = [] }
