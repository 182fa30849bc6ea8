-- Items behind which no block is open are those of a structured sequence.
use Rattle.std.proofs.Common.{◌≡◌, ◌⊎◌, inl, inr, List, [], ◌∷◌, ◌++◌, Option, Some, refl, ap, sym, ◌∙◌, subst, append_assoc}
use Rattle.wasm_ops.specs.declared.operators.Op.{Op}
use Rattle.wasm_ops.specs.declared.types.ValType.{ValType}
use Rattle.wasm_ops.specs.Sequence.{Sequence, Done, Plain, InBlock, InLoop, InIf, InIfElse, IsPlain, IsNested}
use Rattle.wasm_code.specs.declared.items.Item.{Item}
use Rattle.wasm_code.specs.declared.items.Item.TheVariants as item
use Rattle.wasm_code.specs.declared.items.Opener.{Opener}
use Rattle.wasm_code.specs.declared.items.Opener.TheVariants as opener
use Rattle.wasm_code.specs.declared.items.Kind.{Kind}
use Rattle.wasm_code.specs.declared.items.Kind.TheVariants as kind
use Rattle.wasm_code.specs.Bodies.{items_of, open_behind, Place, Passes, AreCut}
use Rattle.wasm_code.proofs.ItemFacts.{item_plain}

-- a sequence, its `end`, and what is behind it
abbrev Ended : (List Item → Type 0) → List Item → Type 0
Ended Behind items = (s : Sequence) × (rest : List Item) × IsNested s × (items ≡ items_of s ++ item.End ∷ rest) × Behind rest

-- the same with an `else` between two sequences
abbrev Turned : (List Item → Type 0) → List Item → Type 0
Turned Behind items =
    (s : Sequence) × (rest : List Item) × IsNested s × (items ≡ items_of s ++ item.Else ∷ rest) × Ended Behind rest

-- the items complete these open blocks, and the body
abbrev Completes : List Kind → List Item → Type 0
Completes [] items = (s : Sequence) × IsNested s × (items ≡ items_of s)
Completes (kind.Then ∷ blocks) items = Ended (Completes blocks) items ⊎ Turned (Completes blocks) items
Completes (inmost ∷ blocks) items = Ended (Completes blocks) items

-- something that may stand in front of any sequence
record Front (front : List Item) : Type 0 where
  before : Sequence → Sequence
  nested : (s : Sequence) → IsNested s → IsNested (before s)
  items : (s : Sequence) → items_of (before s) ≡ front ++ items_of s

in_front
    : (front : List Item) (f : Front front) (closing : Item) (s : Sequence) (rest items : List Item) → items ≡ items_of s ++ closing ∷ rest
    → front ++ items ≡ items_of (f.before s) ++ closing ∷ rest
in_front front f closing s rest items e =
    ap (λ (is : List Item). front ++ is) e
    ∙ sym (append_assoc front (items_of s) (closing ∷ rest))
    ∙ ap (λ (is : List Item). is ++ closing ∷ rest) (sym (f.items s))

front_ended
    : (Behind : List Item → Type 0) (front : List Item) (items : List Item) → Front front → Ended Behind items → Ended Behind (front ++ items)
front_ended Behind front items f e = (f.before e.0, e.1, f.nested e.0 e.2, in_front front f item.End e.0 e.1 items e.3, e.4)

front_turned
    : (Behind : List Item → Type 0) (front : List Item) (items : List Item) → Front front → Turned Behind items → Turned Behind (front ++ items)
front_turned Behind front items f e = (f.before e.0, e.1, f.nested e.0 e.2, in_front front f item.Else e.0 e.1 items e.3, e.4)

fronted : (blocks : List Kind) (front : List Item) (items : List Item) → Front front → Completes blocks items → Completes blocks (front ++ items)
fronted [] front items f e = (f.before e.0, f.nested e.0 e.1, ap (λ (is : List Item). front ++ is) e.2 ∙ sym (f.items e.0))
fronted (kind.Block ∷ blocks) front items f e = front_ended (Completes blocks) front items f e
fronted (kind.Loop ∷ blocks) front items f e = front_ended (Completes blocks) front items f e
fronted (kind.Then ∷ blocks) front items f (inl e) = inl (front_ended (Completes blocks) front items f e)
fronted (kind.Then ∷ blocks) front items f (inr e) = inr (front_turned (Completes blocks) front items f e)
fronted (kind.Else ∷ blocks) front items f e = front_ended (Completes blocks) front items f e

-- Each form in front of a sequence.

plain_front : (o : Op) → IsPlain o → Front (item.Operator o ∷ [])
plain_front o is = record { before = Plain o; nested = λ s nested. (is, nested); items = λ s. refl }

-- what opens a block, the sequence in it, and its `end`
abbrev held : Item → Sequence → List Item
held opens s = opens ∷ (items_of s ++ item.End ∷ [])

block_front : (result : Option ValType) (body : Sequence) → IsNested body → Front (held (item.Opens opener.Block result) body)
block_front result body is =
    record { before = InBlock result body; nested = λ s nested. (is, nested); items = λ s. simp append_assoc }

loop_front : (result : Option ValType) (body : Sequence) → IsNested body → Front (held (item.Opens opener.Loop result) body)
loop_front result body is =
    record { before = InLoop result body; nested = λ s nested. (is, nested); items = λ s. simp append_assoc }

if_front : (result : Option ValType) (inner : Sequence) → IsNested inner → Front (held (item.Opens opener.If result) inner)
if_front result inner is =
    record { before = InIf result inner; nested = λ s nested. (is, nested); items = λ s. simp append_assoc }

if_else_front
    : (result : Option ValType) (inner other : Sequence) → IsNested inner → IsNested other
    → Front (item.Opens opener.If result ∷ (items_of inner ++ item.Else ∷ (items_of other ++ item.End ∷ [])))
if_else_front result inner other is also =
    record { before = InIfElse result inner other; nested = λ s nested. (is, also, nested); items = λ s. simp append_assoc }

-- a whole block in front of what completes the blocks around it
whole_block
    : (opens : Item) (blocks : List Kind) (s : Sequence) (rest items : List Item) → items ≡ items_of s ++ item.End ∷ rest
    → Front (held opens s) → Completes blocks rest → Completes blocks (opens ∷ items)
whole_block opens blocks s rest items e f completes =
    let P : List Item → Type 0 = Completes blocks in
    let same : held opens s ++ rest ≡ opens ∷ items = ap (λ (is : List Item). opens ∷ is) (append_assoc (items_of s) (item.End ∷ []) rest ∙ sym e) in
    subst P same (fronted blocks (held opens s) rest f completes)

whole_if_else
    : (result : Option ValType) (blocks : List Kind) (inner other : Sequence) (middle rest items : List Item) → IsNested inner → IsNested other
    → items ≡ items_of inner ++ item.Else ∷ middle → middle ≡ items_of other ++ item.End ∷ rest
    → Completes blocks rest → Completes blocks (item.Opens opener.If result ∷ items)
whole_if_else result blocks inner other middle rest items is also e f completes =
    let P : List Item → Type 0 = Completes blocks in
    let opens : Item = item.Opens opener.If result in
    let second : List Item = items_of other ++ item.End ∷ [] in
    let ends : (items_of inner ++ item.Else ∷ second) ++ rest ≡ items_of inner ++ item.Else ∷ (items_of other ++ item.End ∷ rest) = simp append_assoc in
    let regrouped : items_of inner ++ item.Else ∷ (items_of other ++ item.End ∷ rest) ≡ items_of inner ++ item.Else ∷ middle =
    ap (λ (m : List Item). items_of inner ++ item.Else ∷ m) (sym f) in
    let same = ap (λ (m : List Item). opens ∷ m) (ends ∙ regrouped ∙ sym e) in
    subst P same (fronted blocks (opens ∷ (items_of inner ++ item.Else ∷ second)) rest (if_else_front result inner other is also) completes)

-- One item more in front.

opened
    : (w : Opener) (result : Option ValType) (blocks next : List Kind) (items : List Item) → open_behind (item.Opens w result) blocks ≡ Some next
    → Completes next items → Completes blocks (item.Opens w result ∷ items)
opened opener.Block result blocks next items e completes =
    let same : next ≡ kind.Block ∷ blocks = cc in
    let P : List Kind → Type 0 = λ ks. Completes ks items in
    let c = subst P same completes in
    whole_block (item.Opens opener.Block result) blocks c.0 c.1 items c.3 (block_front result c.0 c.2) c.4
opened opener.Loop result blocks next items e completes =
    let same : next ≡ kind.Loop ∷ blocks = cc in
    let P : List Kind → Type 0 = λ ks. Completes ks items in
    let c = subst P same completes in
    whole_block (item.Opens opener.Loop result) blocks c.0 c.1 items c.3 (loop_front result c.0 c.2) c.4
opened opener.If result blocks next items e completes =
    let same : next ≡ kind.Then ∷ blocks = cc in
    let P : List Kind → Type 0 = λ ks. Completes ks items in
    elim (subst P same completes) [
      | inl c ↦ whole_block (item.Opens opener.If result) blocks c.0 c.1 items c.3 (if_front result c.0 c.2) c.4
      | inr c ↦ whole_if_else result blocks c.0 c.4.0 c.1 c.4.1 items c.2 c.4.2 c.3 c.4.3 c.4.4
    ]

divided
    : (blocks next : List Kind) (items : List Item) → open_behind item.Else blocks ≡ Some next
    → Completes next items → Completes blocks (item.Else ∷ items)
divided [] next items e completes = let bad : ⊥ = cc in absurd bad
divided (kind.Block ∷ blocks) next items e completes = let bad : ⊥ = cc in absurd bad
divided (kind.Loop ∷ blocks) next items e completes = let bad : ⊥ = cc in absurd bad
divided (kind.Else ∷ blocks) next items e completes = let bad : ⊥ = cc in absurd bad
divided (kind.Then ∷ blocks) next items e completes =
    let same : next ≡ kind.Else ∷ blocks = cc in
    let P : List Kind → Type 0 = λ ks. Completes ks items in
    inr (Done, items, tt, refl, subst P same completes)

shut
    : (blocks next : List Kind) (items : List Item) → open_behind item.End blocks ≡ Some next
    → Completes next items → Completes blocks (item.End ∷ items)
shut [] next items e completes = let bad : ⊥ = cc in absurd bad
shut (kind.Block ∷ blocks) next items e completes =
    let P : List Kind → Type 0 = λ ks. Completes ks items in
    let same : next ≡ blocks = cc in (Done, items, tt, refl, subst P same completes)
shut (kind.Loop ∷ blocks) next items e completes =
    let P : List Kind → Type 0 = λ ks. Completes ks items in
    let same : next ≡ blocks = cc in (Done, items, tt, refl, subst P same completes)
shut (kind.Else ∷ blocks) next items e completes =
    let P : List Kind → Type 0 = λ ks. Completes ks items in
    let same : next ≡ blocks = cc in (Done, items, tt, refl, subst P same completes)
shut (kind.Then ∷ blocks) next items e completes =
    let P : List Kind → Type 0 = λ ks. Completes ks items in
    let same : next ≡ blocks = cc in inl (Done, items, tt, refl, subst P same completes)

one_more
    : (passed : Item) (here there : Place) (items : List Item) → Passes here passed there
    → Completes there.blocks items → Completes here.blocks (passed ∷ items)
one_more (item.Operator o) here there items passes completes =
    let stands = passes.stands in
    let same : there.blocks ≡ here.blocks = cc in
    let P : List Kind → Type 0 = λ ks. Completes ks items in
    let is = item_plain _ here.targets here.ahead o there.targets there.ahead passes.spelt in
    fronted here.blocks (item.Operator o ∷ []) items (plain_front o is) (subst P same completes)
one_more (item.Opens w result) here there items passes completes = opened w result here.blocks there.blocks items passes.stands completes
one_more item.Else here there items passes completes = divided here.blocks there.blocks items passes.stands completes
one_more item.End here there items passes completes = shut here.blocks there.blocks items passes.stands completes

completed : (items : List Item) (here last : Place) → AreCut items here last → last.blocks ≡ [] → Completes here.blocks items
completed [] here last cut none =
    let empty : here.blocks ≡ [] = ap (λ (p : Place). p.blocks) cut ∙ none in
    let P : List Kind → Type 0 = λ ks. Completes ks [] in
    subst P (sym empty) (Done, tt, refl)
completed (passed ∷ items) here last cut none = one_more passed here cut.0 items cut.1 (completed items cut.0 last cut.2 none)

pub sequence_of
    : (items : List Item) (here last : Place) → here.blocks ≡ [] → AreCut items here last → last.blocks ≡ []
    → (s : Sequence) × IsNested s × (items ≡ items_of s)
sequence_of items here last first cut none =
    let P : List Kind → Type 0 = λ ks. Completes ks items in subst P first (completed items here last cut none)
