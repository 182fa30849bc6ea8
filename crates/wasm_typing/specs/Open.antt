-- What the walk over flat operators knows: the operand list of the block at hand, and the open blocks around it (WebAssembly Core 1.0, appendix A.3).
use Rattle.std.specs.Prelude.{ℕ, ◌+◌, ◌≤◌, Bool, List, [], ◌∷◌, length, reverse, take, drop, Option}
use Rattle.wasm_ops.specs.declared.types.ValType.{ValType}
use Rattle.wasm_meaning.specs.declared.blocks.BlockKind.{BlockKind}
use Rattle.wasm_meaning.specs.TypingOperands.{Walk, Operand}
use Rattle.wasm_typing.specs.declared.frames.Frame.{Frame}

-- an open block, and the operand list around it
pub record Block : Type 0 where
  pub kind : BlockKind
  pub result : Option ValType
  pub under : ℕ
  pub types : List Operand
  pub loose : Bool

-- the blocks around the one at hand, the inmost first, and the most that were ever open
pub record Blocks : Type 0 where
  pub around : List Block
  pub deepest : ℕ

pub record Open : Type 0 where
  pub now : Walk
  pub blocks : Blocks

-- how many operands there are
abbrev pub height : Walk → ℕ
height now = now.under + length now.types

-- The stack has all operands, the last one at its end, and each frame knows how many of them lie under the block around it.

-- the operands of a block, the last one first
abbrev pub own : (base : ℕ) → List Operand → List Operand
own base operands = reverse (drop base operands)

-- the open blocks, of which the inmost stands on these operands
abbrev pub blocks_of : List Frame → List Operand → List Block
blocks_of [] beneath = []
blocks_of (f ∷ frames) beneath =
    record { kind = f.kind; result = f.result; under = f.base; types = own f.base beneath; loose = f.loose }
    ∷ blocks_of frames (take f.base beneath)

-- all of it, from the two stacks
abbrev pub seen : (operands : List Operand) (frames : List Frame) (base : ℕ) (loose : Bool) (place most deepest : ℕ) → Open
seen operands frames base loose place most deepest = record {
  now = record { place = place; under = base; types = own base operands; loose = loose; most = most };
  blocks = record { around = blocks_of (reverse frames) (take base operands); deepest = deepest };
}

-- the block around each block has no more operands under it
abbrev pub AreStacked : (base : ℕ) → List Frame → Type 0
AreStacked base [] = Unit {0}
AreStacked base (f ∷ frames) = (f.base ≤ base) × AreStacked f.base frames
