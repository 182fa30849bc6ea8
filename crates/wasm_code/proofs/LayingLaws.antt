-- The operators laid out item by item are the flat form of the sequence that the items are of.
use Rattle.std.proofs.Common.{◌≡◌, ℕ, ◌+◌, List, [], ◌∷◌, ◌++◌, length, Option, Some, None, refl, ap, sym, ◌∙◌, append-nil, append_assoc, length-append, arith}
use Rattle.std.proofs.lemmas.List.{set_at}
use Rattle.std.specs.Prelude.{slice_set}
use Rattle.wasm_ops.specs.declared.operators.Op.{Op}
use Rattle.wasm_ops.specs.declared.operators.Op.TheVariants as op
use Rattle.wasm_ops.specs.declared.types.ValType.{ValType}
use Rattle.wasm_ops.specs.Sequence.{Sequence, Done, Plain, InBlock, InLoop, InIf, InIfElse, size, flat}
use Rattle.wasm_ops.proofs.NestedLaws.{length-flat}
use Rattle.wasm_code.specs.declared.items.Item.{Item}
use Rattle.wasm_code.specs.declared.items.Item.TheVariants as item
use Rattle.wasm_code.specs.declared.items.Opener.{Opener}
use Rattle.wasm_code.specs.declared.items.Opener.TheVariants as opener
use Rattle.wasm_code.specs.declared.blocks.Stage.TheVariants as stage
use Rattle.wasm_code.specs.declared.blocks.OpenBlock.{OpenBlock}
use Rattle.wasm_code.specs.Bodies.{items_of}
use Rattle.wasm_code.specs.Laying.{Laid, opening, first_stage, filled, with_item, with_items}

pub with_items-append : (is js : List Item) (laid : Laid) → with_items (is ++ js) laid ≡ with_items js (with_items is laid)
with_items-append [] js laid = refl
with_items-append (i ∷ is) js laid = with_items-append is js (with_item i laid)

abbrev laid_as : List Op → List OpenBlock → Laid
laid_as ops blocks = record { ops = ops; blocks = blocks }

-- a sequence is laid out behind whatever stands
abbrev IsLaid : Sequence → Type 0
IsLaid s = (ops : List Op) (blocks : List OpenBlock) → with_items (items_of s) (laid_as ops blocks) ≡ laid_as (ops ++ flat (length ops) s) blocks

-- the same, where the length is known, with more items behind it
laid_then
    : (s : Sequence) (n : ℕ) (ops : List Op) (blocks : List OpenBlock) (more : List Item) → IsLaid s → length ops ≡ n
    → with_items (items_of s ++ more) (laid_as ops blocks) ≡ with_items more (laid_as (ops ++ flat n s) blocks)
laid_then s n ops blocks more is e =
    with_items-append (items_of s) more (laid_as ops blocks)
    ∙ ap (λ (l : Laid). with_items more l) (is ops blocks)
    ∙ ap (λ (k : ℕ). with_items more (laid_as (ops ++ flat k s) blocks)) e

-- the operator of a block without `else`, which knows its end
abbrev closing : Opener → Option ValType → (end : ℕ) → Op
closing opener.Block result end = op.Block result end
closing opener.Loop result end = op.Loop result end
closing opener.If result end = op.If result None end

filled_closing
    : (w : Opener) (result : Option ValType) (at end : ℕ) (ops : List Op) → filled (first_stage w) result at end ops ≡ slice_set ops at (closing w result end)
filled_closing opener.Block result at end ops = refl
filled_closing opener.Loop result at end ops = refl
filled_closing opener.If result at end ops = refl

-- one operator is put in place of another
put : (front inner : List Op) (o p : Op) → slice_set ((front ++ o ∷ []) ++ inner) (length front) p ≡ front ++ p ∷ inner
put front inner o p =
    ap (λ (ops : List Op). slice_set ops (length front) p) (append_assoc front (o ∷ []) inner) ∙ set_at front o inner p (length front) refl

one_longer : (front : List Op) (o : Op) → length (front ++ o ∷ []) ≡ length front + 1
one_longer front o = omega (arith, length-append front (o ∷ []))

held_laid
    : (w : Opener) (result : Option ValType) (body rest : Sequence) → IsLaid body → IsLaid rest → (ops : List Op) (blocks : List OpenBlock)
    → with_items (item.Opens w result ∷ (items_of body ++ item.End ∷ items_of rest)) (laid_as ops blocks)
    ≡ laid_as (ops ++ (closing w result (length ops + 1 + size body) ∷ (flat (length ops + 1) body ++ op.End ∷ flat (length ops + 2 + size body) rest))) blocks
held_laid w result body rest is also ops blocks =
    let n = length ops in
    let block : OpenBlock = record { stage = first_stage w; result = result; at = n } in
    let inner = flat (n + 1) body in
    let end = n + 1 + size body in
    let opened : List Op = ops ++ opening w result ∷ [] in
    let full : List Op = opened ++ inner in
    let first = laid_then body (n + 1) opened (block ∷ blocks) (item.End ∷ items_of rest) is (one_longer ops (opening w result)) in
    let long : length full ≡ end = omega (arith, length-append opened inner, one_longer ops (opening w result), length-flat body (n + 1)) in
    let known : filled (first_stage w) result n (length full) full ≡ ops ++ closing w result end ∷ inner =
    filled_closing w result n (length full) full
    ∙ ap (λ (k : ℕ). slice_set full n (closing w result k)) long
    ∙ put ops inner (opening w result) (closing w result end) in
    let shut : List Op = (ops ++ closing w result end ∷ inner) ++ op.End ∷ [] in
    let longer : length shut ≡ n + 2 + size body =
    omega (arith, length-append (ops ++ closing w result end ∷ inner) (op.End ∷ []), length-append ops (closing w result end ∷ inner), length-flat body (n + 1)) in
    let second = ap (λ (front : List Op). with_items (items_of rest) (laid_as (front ++ op.End ∷ []) blocks)) known in
    let behind = also shut blocks in
    let placed = ap (λ (k : ℕ). laid_as (shut ++ flat k rest) blocks) longer in
    let regrouped : shut ++ flat (n + 2 + size body) rest ≡ ops ++ (closing w result end ∷ (inner ++ op.End ∷ flat (n + 2 + size body) rest)) = simp append_assoc in
    first ∙ second ∙ behind ∙ placed ∙ ap (λ (all : List Op). laid_as all blocks) regrouped

choice_laid
    : (result : Option ValType) (inner other rest : Sequence) → IsLaid inner → IsLaid other → IsLaid rest → (ops : List Op) (blocks : List OpenBlock)
    → with_items (items_of (InIfElse result inner other rest)) (laid_as ops blocks) ≡ laid_as (ops ++ flat (length ops) (InIfElse result inner other rest)) blocks
choice_laid result inner other rest is turns also ops blocks =
    let n = length ops in
    let opens : Op = op.If result None 0 in
    let first_block : OpenBlock = record { stage = stage.Then; result = result; at = n } in
    let one = flat (n + 1) inner in
    let divide = n + 1 + size inner in
    let two = flat (n + 2 + size inner) other in
    let end = n + 2 + size inner + size other in
    let whole : Op = op.If result (Some divide) end in
    let block : OpenBlock = record { stage = stage.Else divide; result = result; at = n } in
    let opened : List Op = ops ++ opens ∷ [] in
    let half : List Op = opened ++ one in
    let divided_ops : List Op = half ++ op.Else 0 ∷ [] in
    let full : List Op = divided_ops ++ two in
    let more : List Item = items_of other ++ item.End ∷ items_of rest in
    let first = laid_then inner (n + 1) opened (first_block ∷ blocks) (item.Else ∷ more) is (one_longer ops opens) in
    let half_long : length half ≡ divide = omega (arith, length-append opened one, one_longer ops opens, length-flat inner (n + 1)) in
    let middle = ap (λ (k : ℕ). with_items more (laid_as divided_ops (record { stage = stage.Else k; result = result; at = n } ∷ blocks))) half_long in
    let turned_long : length divided_ops ≡ n + 2 + size inner = omega (arith, one_longer half (op.Else 0)) in
    let second = laid_then other (n + 2 + size inner) divided_ops (block ∷ blocks) (item.End ∷ items_of rest) turns turned_long in
    let full_long : length full ≡ end = omega (arith, length-append divided_ops two, length-flat other (n + 2 + size inner)) in
    let grouped : full ≡ (ops ++ opens ∷ []) ++ (one ++ op.Else 0 ∷ two) = simp append_assoc in
    let knows : slice_set full n whole ≡ ops ++ whole ∷ (one ++ op.Else 0 ∷ two) =
    ap (λ (all : List Op). slice_set all n whole) grouped ∙ put ops (one ++ op.Else 0 ∷ two) opens whole in
    let front : List Op = ops ++ whole ∷ one in
    let front_long : length front ≡ divide = omega (arith, length-append ops (whole ∷ one), length-flat inner (n + 1)) in
    let apart : ops ++ whole ∷ (one ++ op.Else 0 ∷ two) ≡ front ++ op.Else 0 ∷ two = simp append_assoc in
    let tells : slice_set (slice_set full n whole) divide (op.Else end) ≡ front ++ op.Else end ∷ two =
    ap (λ (all : List Op). slice_set all divide (op.Else end)) (knows ∙ apart) ∙ set_at front (op.Else 0) two (op.Else end) divide front_long in
    let known : filled (stage.Else divide) result n (length full) full ≡ front ++ op.Else end ∷ two =
    ap (λ (k : ℕ). slice_set (slice_set full n (op.If result (Some divide) k)) divide (op.Else k)) full_long ∙ tells in
    let shut : List Op = (front ++ op.Else end ∷ two) ++ op.End ∷ [] in
    let longer : length shut ≡ n + 3 + size inner + size other =
    omega (arith, length-append (front ++ op.Else end ∷ two) (op.End ∷ []), length-append front (op.Else end ∷ two), length-flat other (n + 2 + size inner)) in
    let third = ap (λ (all : List Op). with_items (items_of rest) (laid_as (all ++ op.End ∷ []) blocks)) known in
    let behind = also shut blocks in
    let placed = ap (λ (k : ℕ). laid_as (shut ++ flat k rest) blocks) longer in
    let last = flat (n + 3 + size inner + size other) rest in
    let regrouped : shut ++ last ≡ ops ++ (whole ∷ (one ++ op.Else end ∷ (two ++ op.End ∷ last))) = simp append_assoc in
    first ∙ middle ∙ second ∙ third ∙ behind ∙ placed ∙ ap (λ (all : List Op). laid_as all blocks) regrouped

pub laid : (s : Sequence) → IsLaid s
laid Done ops blocks = ap (λ (all : List Op). laid_as all blocks) (sym (append-nil ops))
laid (Plain o rest) ops blocks =
    laid rest (ops ++ o ∷ []) blocks
    ∙ ap (λ (k : ℕ). laid_as ((ops ++ o ∷ []) ++ flat k rest) blocks) (one_longer ops o)
    ∙ ap (λ (all : List Op). laid_as all blocks) (append_assoc ops (o ∷ []) (flat (length ops + 1) rest))
laid (InBlock result body rest) ops blocks = held_laid opener.Block result body rest (laid body) (laid rest) ops blocks
laid (InLoop result body rest) ops blocks = held_laid opener.Loop result body rest (laid body) (laid rest) ops blocks
laid (InIf result inner rest) ops blocks = held_laid opener.If result inner rest (laid inner) (laid rest) ops blocks
laid (InIfElse result inner other rest) ops blocks = choice_laid result inner other rest (laid inner) (laid other) (laid rest) ops blocks
