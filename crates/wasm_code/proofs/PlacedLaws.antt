-- The operators that learn where a block ends stay where they are while more are laid out.
use Rattle.std.proofs.Common.{◌≡◌, ℕ, ◌+◌, ◌<◌, ◌≤◌, List, [], ◌∷◌, ◌++◌, length, reverse, Option, ap, sym, ◌∙◌, subst, length-append, arith}
use Rattle.std.proofs.lemmas.List.{length-set, reverse-append}
use Rattle.wasm_ops.specs.declared.operators.Op.{Op}
use Rattle.wasm_ops.specs.declared.types.ValType.{ValType}
use Rattle.wasm_code.specs.declared.blocks.Stage.{Stage}
use Rattle.wasm_code.specs.declared.blocks.Stage.TheVariants as stage
use Rattle.wasm_code.specs.declared.blocks.OpenBlock.{OpenBlock}
use Rattle.wasm_code.specs.declared.items.Opener.{Opener}
use Rattle.wasm_code.specs.declared.items.Opener.TheVariants as opener
use Rattle.wasm_code.specs.Laying.{IsElsePlaced, IsPlaced, ArePlaced, first_stage, filled}

turn_more : (n m : ℕ) (p : Stage) → n ≤ m → IsElsePlaced n p → IsElsePlaced m p
turn_more n m stage.Block more is = tt
turn_more n m stage.Loop more is = tt
turn_more n m stage.Then more is = tt
turn_more n m (stage.Else divide) more is = omega arith

pub placed_more : (n m : ℕ) (blocks : List OpenBlock) → n ≤ m → ArePlaced n blocks → ArePlaced m blocks
placed_more n m [] more are = tt
placed_more n m (block ∷ blocks) more are =
    let at : block.at < n = are.0.0 in
    ((omega arith, turn_more n m block.stage more are.0.1), placed_more n m blocks more are.1)

-- one more operator
pub placed_push : (ops : List Op) (o : Op) (blocks : List OpenBlock) → ArePlaced (length ops) blocks → ArePlaced (length (ops ++ o ∷ [])) blocks
placed_push ops o blocks are = placed_more (length ops) (length (ops ++ o ∷ [])) blocks (omega (arith, length-append ops (o ∷ []))) are

-- the last one is the first of the others
pub reverse_push : (blocks : List OpenBlock) (block : OpenBlock) → reverse (blocks ++ block ∷ []) ≡ block ∷ reverse blocks
reverse_push blocks block = reverse-append blocks (block ∷ [])

-- one more block, which an operator at the end opens
pub placed_open
    : (ops : List Op) (o : Op) (block : OpenBlock) (blocks : List OpenBlock) → IsPlaced (length ops + 1) block
    → ArePlaced (length ops) (reverse blocks) → ArePlaced (length (ops ++ o ∷ [])) (reverse (blocks ++ block ∷ []))
placed_open ops o block blocks is are =
    let P : List OpenBlock → Type 0 = ArePlaced (length (ops ++ o ∷ [])) in
    let Q : ℕ → Type 0 = λ n. IsPlaced n block in
    let long : length ops + 1 ≡ length (ops ++ o ∷ []) = omega (arith, length-append ops (o ∷ [])) in
    subst P (sym (reverse_push blocks block)) (subst Q long is, placed_push ops o (reverse blocks) are)

pub first_placed : (w : Opener) (n : ℕ) → IsElsePlaced n (first_stage w)
first_placed opener.Block n = tt
first_placed opener.Loop n = tt
first_placed opener.If n = tt

-- the inmost block and the others
pub placed_pop
    : (n : ℕ) (all blocks : List OpenBlock) (block : OpenBlock) → all ≡ blocks ++ block ∷ [] → ArePlaced n (reverse all)
    → IsPlaced n block × ArePlaced n (reverse blocks)
placed_pop n all blocks block e are =
    let P : List OpenBlock → Type 0 = ArePlaced n in
    subst P (ap (λ (bs : List OpenBlock). reverse bs) e ∙ reverse_push blocks block) are

pub length-filled : (p : Stage) (result : Option ValType) (at end : ℕ) (ops : List Op) → length (filled p result at end ops) ≡ length ops
length-filled stage.Block result at end ops = simp length-set
length-filled stage.Loop result at end ops = simp length-set
length-filled stage.Then result at end ops = simp length-set
length-filled (stage.Else divide) result at end ops = simp length-set
