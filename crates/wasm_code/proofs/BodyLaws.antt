-- For each list of bytes one of the two holds in one way: they spell a body, or they are refused with a fault.
use Rattle.std.proofs.Common.{◌≡◌, ◌⊎◌, inl, inr, ℕ, suc, zero, ◌<◌, List, [], ◌∷◌, ◌++◌, length, Option, Some, None, Result, Ok, Err, MatchResult, refl, ap, sym, ◌∙◌, subst, arith}
use Rattle.wasm_ops.specs.declared.faults.Fault.{Fault}
use Rattle.wasm_ops.specs.declared.modules.Body.{Body}
use Rattle.wasm_ops.specs.declared.operators.Op.{Op}
use Rattle.wasm_ops.specs.declared.operators.Op.TheVariants as op
use Rattle.wasm_ops.specs.declared.types.ValType.{ValType}
use Rattle.wasm_ops.specs.Input.{Input}
use Rattle.wasm_ops.specs.Sequence.{Sequence, flat, flat_body}
use Rattle.wasm_ops.specs.declared.faults.Refusal.TheVariants as refusal
use Rattle.wasm_ops.specs.Refusals.{fault_at}
use Rattle.wasm_code.specs.declared.items.Item.{Item}
use Rattle.wasm_code.specs.declared.items.Item.TheVariants as item
use Rattle.wasm_code.specs.declared.items.Opener.TheVariants as opener
use Rattle.wasm_code.specs.declared.items.Kind.{Kind}
use Rattle.wasm_code.specs.Reading.{Read}
use Rattle.wasm_code.specs.Items.{Parsed, RefusesItem, item_from}
use Rattle.wasm_code.specs.Locals.{ReadsLocals, RefusesLocals, locals_from}
use Rattle.wasm_code.specs.Bodies.{items_of, open_behind, Place, AreCut, beginning, first_place, SpellsBody, Misplaced, Remains, RefusesNext, RefusesBody, Walked, at_the_end, walk_ends, walk_behind, walk_at, walk_from, with_walked, behind_locals, body_from}
use Rattle.wasm_code.specs.Laying.{Laid, with_items, nothing}
use Rattle.wasm_code.proofs.Halts as halts
use Rattle.wasm_code.proofs.Halts.{Halts, ReadsAt, one_item, no_item, same_place, refused_halts, closed_halts, one_halt, cut_more}
use Rattle.wasm_code.proofs.ItemLaws.{item_decides, locals_decides}
use Rattle.wasm_code.proofs.ItemFacts.{item_shorter}
use Rattle.wasm_code.proofs.Completions.{sequence_of}
use Rattle.wasm_code.proofs.LayingLaws.{laid}

-- The locals are read in one way.

one_locals
    : (bytes : List ℕ) (x y : List ValType) (here there : Input) → ReadsLocals (beginning bytes) x here → ReadsLocals (beginning bytes) y there
    → (x ≡ y) × (here ≡ there)
one_locals bytes =
    halts.one_value (locals_from (beginning bytes)) (ReadsLocals (beginning bytes)) (RefusesLocals (beginning bytes)) (locals_decides (beginning bytes))

no_locals : (bytes : List ℕ) (x : List ValType) (there : Input) (fault : Fault) → ReadsLocals (beginning bytes) x there → RefusesLocals (beginning bytes) fault → ⊥
no_locals bytes =
    halts.never_both (locals_from (beginning bytes)) (ReadsLocals (beginning bytes)) (RefusesLocals (beginning bytes)) (locals_decides (beginning bytes))

-- Two ways through the items of one body end at one place.
same_end
    : (bytes : List ℕ) (x y : List ValType) (start other : Input) (is js : List Item) (a b : Place)
    → ReadsLocals (beginning bytes) x start → ReadsLocals (beginning bytes) y other
    → AreCut is (first_place start) a → AreCut js (first_place other) b → Halts a → Halts b → (is ≡ js) × (a ≡ b)
same_end bytes x y start other is js a b one two cut also halts ends =
    let begun = (one_locals bytes x y start other one two).1 in
    let P : Input → Type 0 = λ z. AreCut js (first_place z) b in
    one_halt is js (first_place start) a b cut (subst P (sym begun) also) halts ends

-- A body and a fault are never both.

clashes : (here : Place) (targets : List ℕ) (after : Input) (fault : Fault) → ReadsAt here (item.End, targets) after → after.left ≡ [] → RefusesNext here fault → ⊥
clashes here targets after fault closes whole (inl refuses) = no_item here (item.End, targets) after fault closes refuses
clashes here targets after fault closes whole (inr (inl misplaced)) =
    let same = (one_item here (item.End, targets) (item.Else, misplaced.targets) after misplaced.after closes misplaced.spelt).0 in
    let items = ap (λ (p : Parsed). p.0) same in cc
clashes here targets after fault closes whole (inr (inr remains)) =
    let same = (one_item here (item.End, targets) (item.End, remains.targets) after remains.after closes remains.spelt).1 in
    let lefts = ap (λ (z : Input). z.left) same in
    let more = remains.more in cc

pub body_or_fault : (bytes : List ℕ) (body : Body) (fault : Fault) → SpellsBody bytes body → RefusesBody bytes fault → ⊥
body_or_fault bytes body fault spells (inl refuses) = no_locals bytes body.locals spells.start fault spells.locals refuses
body_or_fault bytes body fault spells (inr refuses) =
    let ends = closed_halts spells.last body.targets spells.after spells.no_block spells.closed in
    let same =
    (same_end bytes body.locals refuses.all spells.start refuses.start (items_of spells.sequence) refuses.items spells.last refuses.here
    spells.locals refuses.locals spells.cut refuses.cut ends (refused_halts refuses.here fault refuses.refused)).1 in
    let P : Place → Type 0 = λ p. RefusesNext p fault in
    clashes spells.last body.targets spells.after fault spells.closed spells.whole (subst P (sym same) refuses.refused)

-- One body.

pub same_body : (x y : Body) → x.locals ≡ y.locals → x.ops ≡ y.ops → x.targets ≡ y.targets → x ≡ y
same_body x y locals ops targets =
    let with_locals : List ValType → Body = λ v. record { locals = v; ops = x.ops; targets = x.targets } in
    let with_ops : List Op → Body = λ v. record { locals = y.locals; ops = v; targets = x.targets } in
    let with_targets : List ℕ → Body = λ v. record { locals = y.locals; ops = y.ops; targets = v } in
    ap with_locals locals ∙ ap with_ops ops ∙ ap with_targets targets

-- the items tell the flat form
pub same_flat : (s t : Sequence) → items_of s ≡ items_of t → flat_body s ≡ flat_body t
same_flat s t e =
    let one : with_items (items_of s) (record { ops = []; blocks = [] }) ≡ record { ops = flat 0 s; blocks = [] } = laid s [] [] in
    let two : with_items (items_of t) (record { ops = []; blocks = [] }) ≡ record { ops = flat 0 t; blocks = [] } = laid t [] [] in
    let both = ap (λ (is : List Item). with_items is (record { ops = []; blocks = [] })) e in
    ap (λ (l : Laid). l.ops ++ op.End ∷ []) (sym one ∙ both ∙ two)

pub one_body : (bytes : List ℕ) (x y : Body) → SpellsBody bytes x → SpellsBody bytes y → x ≡ y
one_body bytes x y one two =
    let ends = closed_halts one.last x.targets one.after one.no_block one.closed in
    let also = closed_halts two.last y.targets two.after two.no_block two.closed in
    let same =
    same_end bytes x.locals y.locals one.start two.start (items_of one.sequence) (items_of two.sequence) one.last two.last
    one.locals two.locals one.cut two.cut ends also in
    let P : Place → Type 0 = λ p. ReadsAt p (item.End, y.targets) two.after in
    let closes = subst P (sym same.1) two.closed in
    let parsed = (one_item one.last (item.End, x.targets) (item.End, y.targets) one.after two.after one.closed closes).0 in
    let locals = (one_locals bytes x.locals y.locals one.start two.start one.locals two.locals).0 in
    let ops = one.laid_out ∙ same_flat one.sequence two.sequence same.0 ∙ sym two.laid_out in
    same_body x y locals ops (ap (λ (p : Parsed). p.1) parsed)

-- One fault.

one_misplaced : (here : Place) (f g : Fault) → Misplaced here f → Misplaced here g → f ≡ g
one_misplaced here f g one two = one.told ∙ sym two.told

apart : (here : Place) (f g : Fault) → Misplaced here f → Remains here g → ⊥
apart here f g one two =
    let same = (one_item here (item.Else, one.targets) (item.End, two.targets) one.after two.after one.spelt two.spelt).0 in
    let items = ap (λ (p : Parsed). p.0) same in cc

one_next : (here : Place) (f g : Fault) → RefusesNext here f → RefusesNext here g → f ≡ g
one_next here f g (inl one) (inl two) =
    halts.one_fault (item_from (length here.blocks) here.targets here.ahead) (ReadsAt here)
    (RefusesItem (length here.blocks) here.targets here.ahead) (item_decides (length here.blocks) here.targets here.ahead) f g one two
one_next here f g (inl one) (inr (inl two)) = absurd (no_item here (item.Else, two.targets) two.after f two.spelt one)
one_next here f g (inl one) (inr (inr two)) = absurd (no_item here (item.End, two.targets) two.after f two.spelt one)
one_next here f g (inr (inl one)) (inl two) = absurd (no_item here (item.Else, one.targets) one.after g one.spelt two)
one_next here f g (inr (inr one)) (inl two) = absurd (no_item here (item.End, one.targets) one.after g one.spelt two)
one_next here f g (inr (inl one)) (inr (inl two)) = one_misplaced here f g one two
one_next here f g (inr (inl one)) (inr (inr two)) = absurd (apart here f g one two)
one_next here f g (inr (inr one)) (inr (inl two)) = absurd (apart here g f two one)
one_next here f g (inr (inr one)) (inr (inr two)) =
    let same = (one_item here (item.End, one.targets) (item.End, two.targets) one.after two.after one.spelt two.spelt).1 in
    one.told ∙ ap (λ (z : Input). fault_at refusal.RestAfterEnd z.at) same ∙ sym two.told

pub one_refusal : (bytes : List ℕ) (f g : Fault) → RefusesBody bytes f → RefusesBody bytes g → f ≡ g
one_refusal bytes f g (inl one) (inl two) =
    halts.one_fault (locals_from (beginning bytes)) (ReadsLocals (beginning bytes)) (RefusesLocals (beginning bytes)) (locals_decides (beginning bytes)) f g one two
one_refusal bytes f g (inl one) (inr two) = absurd (no_locals bytes two.all two.start f two.locals one)
one_refusal bytes f g (inr one) (inl two) = absurd (no_locals bytes one.all one.start g one.locals two)
one_refusal bytes f g (inr one) (inr two) =
    let same =
    (same_end bytes one.all two.all one.start two.start one.items two.items one.here two.here one.locals two.locals one.cut two.cut
    (refused_halts one.here f one.refused) (refused_halts two.here g two.refused)).1 in
    let P : Place → Type 0 = λ p. RefusesNext p g in
    one_next one.here f g one.refused (subst P (sym same) two.refused)

-- One of the two.

-- what a walk over the items answers is where they lead
abbrev Leads : Place → Walked → Type 0
Leads start (Ok walked) =
    (last : Place) × (after : Input) × AreCut walked.0 start last
    × (last.blocks ≡ []) × ReadsAt last (item.End, walked.1) after × (after.left ≡ [])
Leads start (Err fault) = (items : List Item) × (here : Place) × AreCut items start here × RefusesNext here fault

-- behind the `end` of the body
left_over
    : (start here : Place) (items : List Item) (targets : List ℕ) (after : Input) (left : List ℕ) → AreCut items start here → here.blocks ≡ []
    → ReadsAt here (item.End, targets) after → after.left ≡ left → Leads start (at_the_end items targets after left)
left_over start here items targets after [] cut none spelt e = (here, after, cut, none, spelt, e)
left_over start here items targets after (byte ∷ rest) cut none spelt e = (
  items,
  here,
  cut,
  inr (inr record {
    targets = targets;
    after = after;
    byte = byte;
    rest = rest;
    no_block = none;
    spelt = spelt;
    more = e;
    told = refl;
  }),
)

none_open : (blocks : List Kind) → open_behind item.End blocks ≡ None → blocks ≡ []
none_open [] e = refl
none_open (inmost ∷ blocks) e = let bad : ⊥ = cc in absurd bad

-- behind an item that stands in no open block
ends
    : (start here : Place) (items : List Item) (passed : Item) (targets : List ℕ) (after : Input) → AreCut items start here
    → ReadsAt here (passed, targets) after → open_behind passed here.blocks ≡ None → Leads start (walk_ends passed items here targets after)
ends start here items (item.Operator o) targets after cut reads e = let bad : ⊥ = cc in absurd bad
ends start here items (item.Opens opener.Block result) targets after cut reads e = let bad : ⊥ = cc in absurd bad
ends start here items (item.Opens opener.Loop result) targets after cut reads e = let bad : ⊥ = cc in absurd bad
ends start here items (item.Opens opener.If result) targets after cut reads e = let bad : ⊥ = cc in absurd bad
ends start here items item.Else targets after cut reads e =
    (items, here, cut, inr (inl record { targets = targets; after = after; spelt = reads; no_if = e; told = refl }))
ends start here items item.End targets after cut reads e =
    left_over start here items targets after after.left cut (none_open here.blocks e) reads refl

-- what a walk does further on, behind one item more
abbrev Further : (start here : Place) (items : List Item) (passed : Item) (next : List Item → Place → Walked) → Type 0
Further start here items passed next =
    (there : Place) → AreCut (items ++ passed ∷ []) start there → length there.ahead.left < length here.ahead.left
    → Leads start (next (items ++ passed ∷ []) there)

leads_behind
    : (start here : Place) (items : List Item) (p : Parsed) (after : Input) (next : List Item → Place → Walked) (stand : Option (List Kind))
    → Further start here items p.0 next → AreCut items start here → ReadsAt here p after → open_behind p.0 here.blocks ≡ stand
    → Leads start (walk_behind stand p after items here next)
leads_behind start here items p after next (Some blocks) further cut reads e =
    let there : Place = record { blocks = blocks; targets = p.1; ahead = after } in
    further there
    (cut_more items p.0 start here there cut (record { spelt = reads; stands = e }))
    (item_shorter (length here.blocks) here.targets here.ahead p after reads)
leads_behind start here items p after next None further cut reads e = ends start here items p.0 p.1 after cut reads e

leads_at
    : (start here : Place) (items : List Item) (next : List Item → Place → Walked) (read : Read Parsed)
    → ((passed : Item) → Further start here items passed next)
    → AreCut items start here → item_from (length here.blocks) here.targets here.ahead ≡ read → Leads start (walk_at read items here next)
leads_at start here items next (Ok read) further cut e =
    let reads = (item_decides (length here.blocks) here.targets here.ahead).found read.0 read.1 e in
    leads_behind start here items read.0 read.1 next (open_behind read.0.0 here.blocks) (further read.0.0) cut reads refl
leads_at start here items next (Err fault) further cut e =
    (items, here, cut, inl ((item_decides (length here.blocks) here.targets here.ahead).refused fault e))

leads : (n : ℕ) (start here : Place) (items : List Item) → AreCut items start here → length here.ahead.left < n → Leads start (walk_from n items here)
leads zero start here items cut short = let bad : ⊥ = omega arith in absurd bad
leads (suc n) start here items cut short =
    leads_at start here items (λ more there. walk_from n more there) (item_from (length here.blocks) here.targets here.ahead)
    (λ passed there longer shorter. leads n start there (items ++ passed ∷ []) longer (omega arith)) cut refl

-- the operators as they are laid out are the flat form
pub flat_of : (items : List Item) (s : Sequence) → items ≡ items_of s → (with_items items nothing).ops ++ op.End ∷ [] ≡ flat_body s
flat_of items s e =
    ap (λ (is : List Item). (with_items is nothing).ops ++ op.End ∷ []) e ∙ ap (λ (l : Laid). l.ops ++ op.End ∷ []) (laid s [] [])

-- the answer is spelt, or it is refused with
abbrev Tells : (bytes : List ℕ) → Result Body Fault → Type 0
Tells bytes answer = MatchResult answer (SpellsBody bytes) (RefusesBody bytes)

walked_tells
    : (bytes : List ℕ) (locals : List ValType) (start : Input) (walked : Walked) → ReadsLocals (beginning bytes) locals start
    → Leads (first_place start) walked → Tells bytes (with_walked locals walked)
walked_tells bytes locals start (Ok walked) reads leading =
    let whole = sequence_of walked.0 (first_place start) leading.0 refl leading.2 leading.3 in
    let P : List Item → Type 0 = λ is. AreCut is (first_place start) leading.0 in
    record {
      start = start;
      sequence = whole.0;
      last = leading.0;
      after = leading.1;
      locals = reads;
      cut = subst P whole.2 leading.2;
      no_block = leading.3;
      closed = leading.4;
      whole = leading.5;
      nested = whole.1;
      laid_out = flat_of walked.0 whole.0 whole.2;
    }
walked_tells bytes locals start (Err fault) reads leading =
    inr record { all = locals; start = start; items = leading.0; here = leading.1; locals = reads; cut = leading.2; refused = leading.3 }

tells_at : (bytes : List ℕ) (read : Read (List ValType)) → locals_from (beginning bytes) ≡ read → Tells bytes (behind_locals read)
tells_at bytes (Ok read) e =
    let reads = (locals_decides (beginning bytes)).found read.0 read.1 e in
    let start = first_place read.1 in
    walked_tells bytes read.0 read.1 (walk_from (suc (length read.1.left)) [] start) reads
    (leads (suc (length read.1.left)) start start [] refl (omega arith))
tells_at bytes (Err fault) e = inl ((locals_decides (beginning bytes)).refused fault e)

pub body_tells : (bytes : List ℕ) → MatchResult (body_from bytes) (SpellsBody bytes) (RefusesBody bytes)
unfolding body_from
body_tells bytes = tells_at bytes (locals_from (beginning bytes)) refl

abbrev IsEither : List ℕ → Type 0
IsEither bytes = ((body : Body) × SpellsBody bytes body) ⊎ ((fault : Fault) × RefusesBody bytes fault)

either_of : (bytes : List ℕ) (answer : Result Body Fault) → Tells bytes answer → IsEither bytes
either_of bytes (Ok body) spells = inl (body, spells)
either_of bytes (Err fault) refuses = inr (fault, refuses)

pub either : (bytes : List ℕ) → IsEither bytes
either bytes = either_of bytes (body_from bytes) (body_tells bytes)

-- The function answers whatever is spelt, and whatever fault there is.

only_body : (bytes : List ℕ) (body : Body) (answer : Result Body Fault) → SpellsBody bytes body → Tells bytes answer → answer ≡ Ok body
only_body bytes body (Ok other) spells told = ap (λ (b : Body). let r : Result Body Fault = Ok b in r) (one_body bytes other body told spells)
only_body bytes body (Err fault) spells told = absurd (body_or_fault bytes body fault spells told)

only_refusal : (bytes : List ℕ) (fault : Fault) (answer : Result Body Fault) → RefusesBody bytes fault → Tells bytes answer → answer ≡ Err fault
only_refusal bytes fault (Ok body) refuses told = absurd (body_or_fault bytes body fault told refuses)
only_refusal bytes fault (Err other) refuses told = ap (λ (f : Fault). let r : Result Body Fault = Err f in r) (one_refusal bytes other fault told refuses)

pub body_only : (bytes : List ℕ) (body : Body) → SpellsBody bytes body → body_from bytes ≡ Ok body
body_only bytes body spells = only_body bytes body (body_from bytes) spells (body_tells bytes)

pub fault_only : (bytes : List ℕ) (fault : Fault) → RefusesBody bytes fault → body_from bytes ≡ Err fault
fault_only bytes fault refuses = only_refusal bytes fault (body_from bytes) refuses (body_tells bytes)
