-- Items are cut in one way, and from one place on there is one place where no item goes on.
use Rattle.std.proofs.Common.{◌≡◌, inl, inr, ℕ, List, [], ◌∷◌, ◌++◌, length, Some, refl, ap, sym, ◌∙◌, subst}
use Rattle.wasm_ops.specs.declared.faults.Fault.{Fault}
use Rattle.wasm_ops.specs.Input.{Input}
use Rattle.wasm_code.specs.declared.items.Item.{Item}
use Rattle.wasm_code.specs.declared.items.Item.TheVariants as item
use Rattle.wasm_code.specs.declared.items.Kind.{Kind}
use Rattle.wasm_code.specs.Reading.{Read}
use Rattle.wasm_code.specs.Items.{Parsed, ReadsItem, RefusesItem, item_from}
use Rattle.wasm_code.specs.Bodies.{open_behind, Place, Passes, AreCut, RefusesNext}
use Rattle.wasm_code.proofs.Decisions.{Decides, read_parts}
use Rattle.wasm_code.proofs.ItemLaws.{item_decides}

-- What is decided is so in one way.

pub one_value
    : {A : Type 0} (read : Read A) (Reads : A → Input → Type 0) (Refuses : Fault → Type 0) → Decides A read Reads Refuses
    → (x y : A) (here there : Input) → Reads x here → Reads y there → (x ≡ y) × (here ≡ there)
one_value read Reads Refuses decides x y here there one other =
    read_parts x y here there (sym (decides.only x here one) ∙ decides.only y there other)

pub one_fault
    : {A : Type 0} (read : Read A) (Reads : A → Input → Type 0) (Refuses : Fault → Type 0) → Decides A read Reads Refuses
    → (f g : Fault) → Refuses f → Refuses g → f ≡ g
one_fault read Reads Refuses decides f g one other =
    let first = decides.only_refused f one in let second = decides.only_refused g other in cc

pub never_both
    : {A : Type 0} (read : Read A) (Reads : A → Input → Type 0) (Refuses : Fault → Type 0) → Decides A read Reads Refuses
    → (x : A) (there : Input) (fault : Fault) → Reads x there → Refuses fault → ⊥
never_both read Reads Refuses decides x there fault reads refuses =
    let first = decides.only x there reads in let second = decides.only_refused fault refuses in cc

-- Items at a place.

abbrev pub ReadsAt : Place → Parsed → Input → Type 0
ReadsAt here = ReadsItem (length here.blocks) here.targets here.ahead

pub one_item : (here : Place) (p q : Parsed) (there other : Input) → ReadsAt here p there → ReadsAt here q other → (p ≡ q) × (there ≡ other)
one_item here =
    one_value (item_from (length here.blocks) here.targets here.ahead) (ReadsAt here)
    (RefusesItem (length here.blocks) here.targets here.ahead) (item_decides (length here.blocks) here.targets here.ahead)

pub no_item : (here : Place) (p : Parsed) (there : Input) (fault : Fault) → ReadsAt here p there → RefusesItem (length here.blocks) here.targets here.ahead fault → ⊥
no_item here =
    never_both (item_from (length here.blocks) here.targets here.ahead) (ReadsAt here)
    (RefusesItem (length here.blocks) here.targets here.ahead) (item_decides (length here.blocks) here.targets here.ahead)

pub same_place : (a b : Place) → a.blocks ≡ b.blocks → a.targets ≡ b.targets → a.ahead ≡ b.ahead → a ≡ b
same_place a b blocks targets ahead =
    let with_blocks : List Kind → Place = λ x. record { blocks = x; targets = a.targets; ahead = a.ahead } in
    let with_targets : List ℕ → Place = λ x. record { blocks = b.blocks; targets = x; ahead = a.ahead } in
    let with_ahead : Input → Place = λ x. record { blocks = b.blocks; targets = b.targets; ahead = x } in
    ap with_blocks blocks ∙ ap with_targets targets ∙ ap with_ahead ahead

some_same : (a b : List Kind) → Some a ≡ Some b → a ≡ b
some_same a b e = cc

one_step : (here : Place) (i j : Item) (there other : Place) → Passes here i there → Passes here j other → (i ≡ j) × (there ≡ other)
one_step here i j there other one two =
    let same = one_item here (i, there.targets) (j, other.targets) there.ahead other.ahead one.spelt two.spelt in
    let items : i ≡ j = ap (λ (p : Parsed). p.0) same.0 in
    let targets : there.targets ≡ other.targets = ap (λ (p : Parsed). p.1) same.0 in
    let opens = ap (λ (k : Item). open_behind k here.blocks) items in
    let blocks : there.blocks ≡ other.blocks = some_same there.blocks other.blocks (sym one.stands ∙ opens ∙ two.stands) in
    (items, same_place there other blocks targets same.1)

-- no item goes on from there
pub record Halts (here : Place) : Type 0 where
  pub nowhere : (i : Item) (there : Place) → Passes here i there → ⊥

-- where a refusal stands
pub refused_halts : (here : Place) (fault : Fault) → RefusesNext here fault → Halts here
refused_halts here fault (inl refuses) =
    record { nowhere = λ i there passes. no_item here (i, there.targets) there.ahead fault passes.spelt refuses }
refused_halts here fault (inr (inl misplaced)) =
    record {
      nowhere = λ i there passes.
          let same = (one_item here (i, there.targets) (item.Else, misplaced.targets) there.ahead misplaced.after passes.spelt misplaced.spelt).0 in
          let opens = ap (λ (p : Parsed). open_behind p.0 here.blocks) same in
          let stands = passes.stands in let none = misplaced.no_if in cc;
    }
refused_halts here fault (inr (inr remains)) =
    record {
      nowhere = λ i there passes.
          let same = (one_item here (i, there.targets) (item.End, remains.targets) there.ahead remains.after passes.spelt remains.spelt).0 in
          let opens = ap (λ (p : Parsed). open_behind p.0 here.blocks) same in
          let empty = ap (λ (ks : List Kind). open_behind item.End ks) remains.no_block in
          let stands = passes.stands in cc;
    }

-- the end of a body
pub closed_halts : (here : Place) (targets : List ℕ) (after : Input) → here.blocks ≡ [] → ReadsAt here (item.End, targets) after → Halts here
closed_halts here targets after no_block spelt =
    record {
      nowhere = λ i there passes.
          let same = (one_item here (i, there.targets) (item.End, targets) there.ahead after passes.spelt spelt).0 in
          let opens = ap (λ (p : Parsed). open_behind p.0 here.blocks) same in
          let empty = ap (λ (ks : List Kind). open_behind item.End ks) no_block in
          let stands = passes.stands in cc;
    }

-- two ways from one place to places where nothing goes on are one
pub one_halt
    : (is js : List Item) (here a b : Place) → AreCut is here a → AreCut js here b → Halts a → Halts b → (is ≡ js) × (a ≡ b)
one_halt [] [] here a b one other halts ends = (refl, sym one ∙ other)
one_halt [] (j ∷ js) here a b one other halts ends =
    let P : Place → Type 0 = λ p. Passes p j other.0 in absurd (halts.nowhere j other.0 (subst P one other.1))
one_halt (i ∷ is) [] here a b one other halts ends =
    let P : Place → Type 0 = λ p. Passes p i one.0 in absurd (ends.nowhere i one.0 (subst P other one.1))
one_halt (i ∷ is) (j ∷ js) here a b one other halts ends =
    let step = one_step here i j one.0 other.0 one.1 other.1 in
    let P : Place → Type 0 = λ p. AreCut js p b in
    let rest = one_halt is js one.0 a b one.2 (subst P (sym step.1) other.2) halts ends in
    let first = step.0 in let others = rest.0 in
    (cc, rest.1)

-- one more item
pub cut_more
    : (items : List Item) (passed : Item) (here there next : Place) → AreCut items here there → Passes there passed next
    → AreCut (items ++ passed ∷ []) here next
cut_more [] passed here there next cut passes =
    let P : Place → Type 0 = λ p. Passes p passed next in (next, subst P (sym cut) passes, refl)
cut_more (i ∷ items) passed here there next cut passes = (cut.0, cut.1, cut_more items passed cut.0 there next cut.2 passes)
