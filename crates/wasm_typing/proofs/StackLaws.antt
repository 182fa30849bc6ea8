-- What opening and leaving a block do to the stacks, as contracts see them.
use Rattle.std.proofs.Common.{◌≡◌, ℕ, ◌+◌, ◌-◌, ◌<◌, ◌≤◌, max, Bool, false, List, [], ◌∷◌, ◌++◌, length, take, drop, reverse, Option, Err, refl, ap, sym, ◌∙◌, arith, length-append, length-drop}
use Rattle.std.proofs.Math.Seq.{take-length, drop-length}
use Rattle.std.proofs.lemmas.List.{reverse-append, length-reverse, take-append-drop, append-nil}
use Rattle.wasm_ops.specs.declared.types.ValType.{ValType}
use Rattle.wasm_meaning.specs.declared.blocks.BlockKind.{BlockKind}
use Rattle.wasm_meaning.specs.declared.violations.Rule.{Rule}
use Rattle.wasm_meaning.specs.declared.violations.Rule.TheVariants.{StackHeight}
use Rattle.wasm_meaning.specs.Typing.{emptied_of}
use Rattle.wasm_meaning.specs.TypingOperands.{Walk, Operand}
use Rattle.wasm_typing.specs.declared.frames.Frame.{Frame}
use Rattle.wasm_typing.specs.Open.{own, blocks_of, seen}
use Rattle.wasm_typing.specs.Steps.{opened, left}

pub length-own : (base : ℕ) (operands : List Operand) → length (own base operands) ≡ length operands - base
length-own base operands = length-reverse (drop base operands) ∙ length-drop base operands

length-blocks_of : (frames : List Frame) (beneath : List Operand) → length (blocks_of frames beneath) ≡ length frames
length-blocks_of [] beneath = refl
length-blocks_of (f ∷ frames) beneath = let more = length-blocks_of frames (take f.base beneath) in omega arith

-- an operand is left over
pub some_left
    : (types : List Operand) (now : Walk) (rule : Rule) (place : ℕ) → 0 < length types → rule ≡ StackHeight → place ≡ now.place
    → emptied_of types now ≡ Err (record { rule = rule; place = place })
some_left [] now rule place some is at = absurd (omega arith)
some_left (t ∷ types) now rule place some is at = rw (is, at) refl

all_of : (base : ℕ) (operands : List Operand) → length operands ≤ base → take base operands ≡ operands
all_of base operands few =
    let none : length (drop base operands) ≡ 0 = omega (arith, length-drop base operands) in
    let whole = take-append-drop base operands in
    from_none (take base operands) (drop base operands) operands none whole
  where
    from_none : (front back whole : List Operand) → length back ≡ 0 → front ++ back ≡ whole → front ≡ whole
    from_none front [] whole none same = sym (append-nil front) ∙ same
    from_none front (t ∷ back) whole none same = absurd (omega arith)

-- the block around the one at hand
pub left_is
    : (operands : List Operand) (frames before : List Frame) (f : Frame) (base : ℕ) (loose : Bool) (place most deepest : ℕ)
    → before ≡ frames ++ f ∷ [] → own base operands ≡ []
    → seen operands frames f.base f.loose place most deepest ≡ left (seen operands before base loose place most deepest)
left_is operands frames before f base loose place most deepest popped none =
    let few : length operands ≤ base = omega (arith, length-own base operands, ap (λ (ts : List Operand). length ts) none) in
    let all = all_of base operands few in
    let turned : reverse before ≡ f ∷ reverse frames = ap (λ (fs : List Frame). reverse fs) popped ∙ reverse-append frames (f ∷ []) in
    rw (turned, all) refl

-- a block whose list is empty
pub opened_is
    : (operands : List Operand) (frames after : List Frame) (kind : BlockKind) (result : Option ValType) (base : ℕ) (loose : Bool) (place most deepest height most_blocks : ℕ)
    → after ≡ frames ++ record { kind = kind; result = result; base = base; loose = loose } ∷ [] → base ≤ length operands → height ≡ length operands
    → most_blocks ≡ max deepest (length after)
    → opened kind result (seen operands frames base loose place most deepest) ≡ seen operands after height false (place + 1) most most_blocks
opened_is operands frames after kind result base loose place most deepest height most_blocks pushed within whole more =
    let all = take-length operands in
    let none = drop-length operands in
    let frame : Frame = record { kind = kind; result = result; base = base; loose = loose } in
    let turned : reverse after ≡ frame ∷ reverse frames = ap (λ (fs : List Frame). reverse fs) pushed ∙ reverse-append frames (frame ∷ []) in
    let sum : base + length (own base operands) ≡ length operands = omega (arith, length-own base operands) in
    let count : length after ≡ length (blocks_of (reverse frames) (take base operands)) + 1 = omega (arith, length-blocks_of (reverse frames) (take base operands), length-reverse frames, length-append frames (frame ∷ []), ap (λ (fs : List Frame). length fs) pushed) in
    rw (more, whole, turned, all, none, sum, count) refl
