-- What bytes spell as a body is well formed.
use Rattle.std.proofs.Common.{◌≡◌, ℕ, ◌+◌, ◌^◌, ◌<◌, ◌≤◌, List, [], ◌∷◌, ◌++◌, length, Some, None, Result, Ok, Err, IfOk, refl, ap, sym, subst, arith, length-append}
use Rattle.std.specs.List.{AllByRecursion}
use Rattle.wasm_ops.specs.declared.modules.Body.{Body}
use Rattle.wasm_ops.specs.declared.operators.Op.{Op}
use Rattle.wasm_ops.specs.declared.operators.Op.TheVariants as op
use Rattle.wasm_ops.specs.declared.types.ValType.{ValType}
use Rattle.wasm_ops.specs.Bytes.{AreBytes}
use Rattle.wasm_ops.specs.Input.{Input}
use Rattle.wasm_ops.specs.declared.numbers.Sign.TheVariants.{Unsigned}
use Rattle.wasm_ops.specs.Sequence.{Sequence, Done, Plain, InBlock, InLoop, InIf, InIfElse, size, flat, flat_body}
use Rattle.wasm_ops.specs.WellFormed.{IsOperator, IsWellFormedBody}
use Rattle.wasm_ops.proofs.ByteLaws.{spelt_bytes}
use Rattle.wasm_ops.proofs.NestedLaws.{length-flat}
use Rattle.wasm_code.specs.declared.faults.CodeFault.{CodeFault}
use Rattle.wasm_code.specs.declared.items.Item.{Item}
use Rattle.wasm_code.specs.declared.items.Item.TheVariants as item
use Rattle.wasm_code.specs.Locals.{Group, ReadsGroups, ReadsLocals}
use Rattle.wasm_code.specs.Bodies.{Place, Passes, AreCut, beginning, first_place, items_of, SpellsBody}
use Rattle.wasm_code.proofs.ItemFacts.{item_shorter, item_few, locals_shorter}
use Rattle.wasm_code.proofs.FormedLaws.{item_bytes, item_formed, item_grows}

-- Facts of all items of a list.

all_append : {X : Type 0} (P : X → Type 0) (xs ys : List X) → AllByRecursion P xs → AllByRecursion P ys → AllByRecursion P (xs ++ ys)
all_append P [] ys all more = more
all_append P (x ∷ xs) ys all more = (all.0, all_append P xs ys all.1 more)

all_front : {X : Type 0} (P : X → Type 0) (xs ys : List X) → AllByRecursion P (xs ++ ys) → AllByRecursion P xs
all_front P [] ys all = tt
all_front P (x ∷ xs) ys all = (all.0, all_front P xs ys all.1)

all_behind : {X : Type 0} (P : X → Type 0) (xs ys : List X) → AllByRecursion P (xs ++ ys) → AllByRecursion P ys
all_behind P [] ys all = all
all_behind P (x ∷ xs) ys all = all_behind P xs ys all.1

-- Items.

abbrev IsFormedItem : (targets : ℕ) → Item → Type 0
IsFormedItem targets (item.Operator o) = IsOperator targets o
IsFormedItem targets i = Unit {0}

more_targets : (few many : ℕ) (o : Op) → few ≤ many → IsOperator few o → IsOperator many o
more_targets few many (op.BrTable from count) le is = let within = is.within in record { within = omega arith; few = is.few }
more_targets few many _ le is = is

more_items : (few many : ℕ) (i : Item) → few ≤ many → IsFormedItem few i → IsFormedItem many i
more_items few many (item.Operator o) le is = more_targets few many o le is
more_items few many _ le is = is

cut_grows : (items : List Item) (here there : Place) → AreCut items here there → length here.targets ≤ length there.targets
cut_grows [] here there cut = let same = ap (λ (p : Place). length p.targets) cut in omega arith
cut_grows (passed ∷ items) here there cut =
    let one = item_grows (length here.blocks) here.targets here.ahead (passed, cut.0.targets) cut.0.ahead cut.1.spelt in
    let more = cut_grows items cut.0 there cut.2 in omega arith

-- each item takes a byte at least, and each of its targets another one
cut_long : (items : List Item) (here there : Place) → AreCut items here there → length items + length there.ahead.left ≤ length here.ahead.left
cut_long [] here there cut = let same = ap (λ (p : Place). length p.ahead.left) cut in omega arith
cut_long (passed ∷ items) here there cut =
    let one = item_shorter (length here.blocks) here.targets here.ahead (passed, cut.0.targets) cut.0.ahead cut.1.spelt in
    let more = cut_long items cut.0 there cut.2 in omega arith

cut_few
    : (items : List Item) (here there : Place) → AreCut items here there
    → length there.targets + length there.ahead.left ≤ length here.targets + length here.ahead.left
cut_few [] here there cut =
    let targets = ap (λ (p : Place). length p.targets) cut in let left = ap (λ (p : Place). length p.ahead.left) cut in omega arith
cut_few (passed ∷ items) here there cut =
    let one = item_few (length here.blocks) here.targets here.ahead (passed, cut.0.targets) cut.0.ahead cut.1.spelt in
    let more = cut_few items cut.0 there cut.2 in omega arith

first_formed
    : (passed : Item) (here next : Place) → AreBytes here.ahead.left → (length here.targets ≤ length next.targets)
    → Passes here passed next → IsFormedItem (length next.targets) passed
first_formed (item.Operator o) here next are grows passes =
    item_formed (length here.blocks) here.targets here.ahead o next.targets next.ahead are passes.spelt
first_formed _ here next are grows passes = tt

cut_formed
    : (items : List Item) (here there : Place) (targets : ℕ) → AreBytes here.ahead.left → length there.targets ≤ targets → AreCut items here there
    → AllByRecursion (IsFormedItem targets) items
cut_formed [] here there targets are le cut = tt
cut_formed (passed ∷ items) here there targets are le cut =
    let grows = item_grows (length here.blocks) here.targets here.ahead (passed, cut.0.targets) cut.0.ahead cut.1.spelt in
    let more = cut_grows items cut.0 there cut.2 in
    let behind = item_bytes (length here.blocks) here.targets here.ahead (passed, cut.0.targets) cut.0.ahead are cut.1.spelt in
    let one = more_items (length cut.0.targets) targets passed (omega arith) (first_formed passed here cut.0 are grows cut.1) in
    (one, cut_formed items cut.0 there targets behind le cut.2)

-- The flat form has the operators of the items, and those that open and close blocks.

abbrev AreFormed : (targets : ℕ) → List Op → Type 0
AreFormed targets ops = AllByRecursion (IsOperator targets) ops

held_formed
    : (targets : ℕ) (opens closes : Op) (held behind : List Op) → IsOperator targets opens → IsOperator targets closes → AreFormed targets held
    → AreFormed targets behind → AreFormed targets (opens ∷ (held ++ closes ∷ behind))
held_formed targets opens closes held behind opened closed one other =
    (opened, all_append (IsOperator targets) held (closes ∷ behind) one (closed, other))

flat_formed : (s : Sequence) (at targets : ℕ) → AllByRecursion (IsFormedItem targets) (items_of s) → AreFormed targets (flat at s)
flat_formed Done at targets all = tt
flat_formed (Plain o rest) at targets all = (all.0, flat_formed rest (at + 1) targets all.1)
flat_formed (InBlock result body rest) at targets all =
    let P = IsFormedItem targets in
    held_formed targets (op.Block result (at + 1 + size body)) op.End (flat (at + 1) body) (flat (at + 2 + size body) rest) tt tt
    (flat_formed body (at + 1) targets (all_front P (items_of body) (item.End ∷ items_of rest) all.1))
    (flat_formed rest (at + 2 + size body) targets (all_behind P (items_of body) (item.End ∷ items_of rest) all.1).1)
flat_formed (InLoop result body rest) at targets all =
    let P = IsFormedItem targets in
    held_formed targets (op.Loop result (at + 1 + size body)) op.End (flat (at + 1) body) (flat (at + 2 + size body) rest) tt tt
    (flat_formed body (at + 1) targets (all_front P (items_of body) (item.End ∷ items_of rest) all.1))
    (flat_formed rest (at + 2 + size body) targets (all_behind P (items_of body) (item.End ∷ items_of rest) all.1).1)
flat_formed (InIf result inner rest) at targets all =
    let P = IsFormedItem targets in
    held_formed targets (op.If result None (at + 1 + size inner)) op.End (flat (at + 1) inner) (flat (at + 2 + size inner) rest) tt tt
    (flat_formed inner (at + 1) targets (all_front P (items_of inner) (item.End ∷ items_of rest) all.1))
    (flat_formed rest (at + 2 + size inner) targets (all_behind P (items_of inner) (item.End ∷ items_of rest) all.1).1)
flat_formed (InIfElse result inner other rest) at targets all =
    let P = IsFormedItem targets in
    let second = items_of other ++ item.End ∷ items_of rest in
    let behind = (all_behind P (items_of inner) (item.Else ∷ second) all.1).1 in
    let end = at + 2 + size inner + size other in
    held_formed targets (op.If result (Some (at + 1 + size inner)) end) (op.Else end) (flat (at + 1) inner)
    (flat (at + 2 + size inner) other ++ op.End ∷ flat (at + 3 + size inner + size other) rest) tt tt
    (flat_formed inner (at + 1) targets (all_front P (items_of inner) (item.Else ∷ second) all.1))
    (all_append (IsOperator targets) (flat (at + 2 + size inner) other) (op.End ∷ flat (at + 3 + size inner + size other) rest)
    (flat_formed other (at + 2 + size inner) targets (all_front P (items_of other) (item.End ∷ items_of rest) behind))
    (tt, flat_formed rest (at + 3 + size inner + size other) targets (all_behind P (items_of other) (item.End ∷ items_of rest) behind).1))

-- as many items as operators
items_long : (s : Sequence) → length (items_of s) ≡ size s
items_long Done = refl
items_long (Plain o rest) = let more = items_long rest in omega arith
items_long (InBlock result body rest) =
    omega (arith, items_long body, items_long rest, length-append (items_of body) (item.End ∷ items_of rest))
items_long (InLoop result body rest) =
    omega (arith, items_long body, items_long rest, length-append (items_of body) (item.End ∷ items_of rest))
items_long (InIf result inner rest) =
    omega (arith, items_long inner, items_long rest, length-append (items_of inner) (item.End ∷ items_of rest))
items_long (InIfElse result inner other rest) =
    let second = items_of other ++ item.End ∷ items_of rest in
    omega (
      arith,
      items_long inner,
      items_long other,
      items_long rest,
      length-append (items_of other) (item.End ∷ items_of rest),
      length-append (items_of inner) (item.Else ∷ second),
    )

-- Locals.

groups_bytes : (groups : List Group) (before after : Input) → AreBytes before.left → ReadsGroups groups before after → AreBytes after.left
groups_bytes [] before after are reads = subst (λ (z : Input). AreBytes z.left) (sym reads) are
groups_bytes (group ∷ groups) before after are reads =
    let counted = spelt_bytes Unsigned 32 before.left group.count reads.0.left are reads.2.spelt in
    let spelt = reads.3 in
    let typed = (subst AreBytes spelt.2.next counted).1 in
    groups_bytes groups reads.1 after (subst (λ (z : Input). AreBytes z.left) (sym spelt.3.1) typed) reads.4

locals_bytes : (before : Input) (all : List ValType) (after : Input) → AreBytes before.left → ReadsLocals before all after → AreBytes after.left
locals_bytes before all after are reads =
    let counted = spelt_bytes Unsigned 32 before.left reads.0 reads.1.left are reads.2.spelt in
    groups_bytes reads.3.0 reads.1 after counted reads.3.2

-- Bodies.

pub body_formed : (bytes : List ℕ) (body : Body) → AreBytes bytes → length bytes < 2 ^ 32 → SpellsBody bytes body → IsWellFormedBody body
body_formed bytes body are few spells =
    let items = items_of spells.sequence in
    let first = first_place spells.start in
    let last = spells.last in
    let locals = locals_shorter (beginning bytes) body.locals spells.start spells.locals in
    let begun = locals_bytes (beginning bytes) body.locals spells.start are spells.locals in
    let long = cut_long items first last spells.cut in
    let closed = item_shorter (length last.blocks) last.targets last.ahead (item.End, body.targets) spells.after spells.closed in
    let fewer = cut_few items first last spells.cut in
    let closed_few = item_few (length last.blocks) last.targets last.ahead (item.End, body.targets) spells.after spells.closed in
    let grows = item_grows (length last.blocks) last.targets last.ahead (item.End, body.targets) spells.after spells.closed in
    let all = cut_formed items first last (length body.targets) begun grows spells.cut in
    let count = items_long spells.sequence in
    let ops = ap (λ (os : List Op). length os) spells.laid_out in
    let flat_long = length-flat spells.sequence 0 in
    let formed : AreFormed (length body.targets) (flat_body spells.sequence) =
    all_append (IsOperator (length body.targets)) (flat 0 spells.sequence) (op.End ∷ []) (flat_formed spells.sequence 0 (length body.targets) all) (tt, tt) in
    record {
      sequence = spells.sequence;
      stands = record { nested = spells.nested; laid_out = spells.laid_out };
      operators = subst (λ (os : List Op). AreFormed (length body.targets) os) (sym spells.laid_out) formed;
      few_operators = omega (arith, length-append (flat 0 spells.sequence) (op.End ∷ []));
      few_targets = omega arith;
      few_locals = spells.locals.3.4;
    }

pub body_given
    : (bytes : List ℕ) (result : Result Body CodeFault) → AreBytes bytes → length bytes < 2 ^ 32 → IfOk result (λ body. SpellsBody bytes body)
    → IfOk result (λ body. IsWellFormedBody body)
body_given bytes (Ok body) are few found = body_formed bytes body are few found
body_given bytes (Err fault) are few found = tt
