-- What is known between two items of a body, and what follows from the next one.
use Rattle.std.proofs.Common.{◌≡◌, inl, inr, ℕ, ◌+◌, ◌<◌, ◌≤◌, List, [], ◌∷◌, ◌++◌, length, Some, None, Ok, refl, ap, sym, ◌∙◌, subst, length-append, arith}
use Rattle.wasm_ops.specs.declared.faults.Fault.{Fault}
use Rattle.wasm_ops.specs.declared.operators.Op.{Op}
use Rattle.wasm_ops.specs.declared.operators.Op.TheVariants as op
use Rattle.wasm_ops.specs.Input.{Input}
use Rattle.wasm_ops.specs.declared.faults.Refusal.TheVariants as refusal
use Rattle.wasm_ops.specs.Refusals.{fault_at}
use Rattle.wasm_code.specs.declared.faults.CodeFault.{CodeFault}
use Rattle.wasm_code.specs.declared.faults.CodeFault.TheVariants.{Bytes, NoMemory}
use Rattle.wasm_code.specs.declared.items.Item.{Item}
use Rattle.wasm_code.specs.declared.items.Item.TheVariants as item
use Rattle.wasm_code.specs.declared.items.Opener.TheVariants as opener
use Rattle.wasm_code.specs.declared.items.Kind.{Kind}
use Rattle.wasm_code.specs.declared.items.Kind.TheVariants as kind
use Rattle.wasm_code.specs.declared.blocks.OpenBlock.{OpenBlock}
use Rattle.wasm_code.specs.declared.blocks.Stage.{Stage}
use Rattle.wasm_code.specs.declared.blocks.Stage.TheVariants as stage
use Rattle.wasm_code.specs.declared.blocks.Standing.TheVariants.{Inside, Misplaced, Last}
use Rattle.wasm_code.specs.Items.{Parsed, ReadsItem, RefusesItem, item_from}
use Rattle.wasm_code.specs.Faults.{IsFaultOf, IsAmong}
use Rattle.wasm_code.specs.Bodies.{open_behind, Place, AreCut, first_place, RefusesNext}
use Rattle.wasm_code.specs.Laying.{Laid, opening, filled, closed, kind_of_stage, kinds_of, standing_of, with_item, with_items, nothing}
use Rattle.wasm_code.specs.Operators.{SpellsOperators, RefusesOperators}
use Rattle.wasm_code.proofs.Halts.{cut_more}
use Rattle.wasm_code.proofs.ItemLaws.{item_decides}
use Rattle.wasm_code.proofs.ItemFacts.{item_shorter, item_few}
use Rattle.wasm_code.proofs.LayingLaws.{with_items-append}
use Rattle.wasm_code.proofs.PlacedLaws.{length-filled}

-- the place that the code stands at
abbrev pub place_of : Laid → (targets : List ℕ) → Input → Place
place_of laid targets ahead = record { blocks = kinds_of laid.blocks; targets = targets; ahead = ahead }

-- the items so far, and that no list is longer than the bytes
pub record SoFar (start : Input) (laid : Laid) (targets : List ℕ) (ahead : Input) : Type 0 where
  pub items : List Item
  pub cut : AreCut items (first_place start) (place_of laid targets ahead)
  pub same : with_items items nothing ≡ laid
  pub room : length laid.ops + length ahead.left ≤ length start.left
  pub few : length targets + length ahead.left ≤ length start.left

pub at_first : (start : Input) → SoFar start nothing [] start
at_first start = record { items = []; cut = refl; same = refl; room = omega arith; few = omega arith }

length-kinds : (blocks : List OpenBlock) → length (kinds_of blocks) ≡ length blocks
length-kinds [] = refl
length-kinds (block ∷ blocks) = let more = length-kinds blocks in omega arith

-- the next item, at the place
reads_next
    : (laid : Laid) (targets : List ℕ) (ahead : Input) (p : Parsed) (after : Input) → item_from (length laid.blocks) targets ahead ≡ Ok (p, after)
    → ReadsItem (length (kinds_of laid.blocks)) targets ahead p after
reads_next laid targets ahead p after e =
    let P : ℕ → Type 0 = λ depth. ReadsItem depth targets ahead p after in
    subst P (sym (length-kinds laid.blocks)) ((item_decides (length laid.blocks) targets ahead).found p after e)

-- An item with more behind it.

turn_stands
    : (block : Stage) (others : List Kind) → standing_of item.Else (kind_of_stage block ∷ others) ≡ Inside
    → open_behind item.Else (kind_of_stage block ∷ others) ≡ Some (kind.Else ∷ others)
turn_stands stage.Block others is = let bad : ⊥ = cc in absurd bad
turn_stands stage.Loop others is = let bad : ⊥ = cc in absurd bad
turn_stands stage.Then others is = refl
turn_stands (stage.Else divide) others is = let bad : ⊥ = cc in absurd bad

turns_inside
    : (ops : List Op) (blocks : List OpenBlock) → standing_of item.Else (kinds_of blocks) ≡ Inside
    → open_behind item.Else (kinds_of blocks) ≡ Some (kinds_of (with_item item.Else (record { ops = ops; blocks = blocks })).blocks)
turns_inside ops [] is = let bad : ⊥ = cc in absurd bad
turns_inside ops (block ∷ blocks) is = turn_stands block.stage (kinds_of blocks) is

closes_inside
    : (ops : List Op) (blocks : List OpenBlock) → standing_of item.End (kinds_of blocks) ≡ Inside
    → open_behind item.End (kinds_of blocks) ≡ Some (kinds_of (with_item item.End (record { ops = ops; blocks = blocks })).blocks)
closes_inside ops [] is = let bad : ⊥ = cc in absurd bad
closes_inside ops (block ∷ blocks) is = refl

stands_inside
    : (passed : Item) (laid : Laid) → standing_of passed (kinds_of laid.blocks) ≡ Inside
    → open_behind passed (kinds_of laid.blocks) ≡ Some (kinds_of (with_item passed laid).blocks)
stands_inside (item.Operator o) laid is = refl
stands_inside (item.Opens opener.Block result) laid is = refl
stands_inside (item.Opens opener.Loop result) laid is = refl
stands_inside (item.Opens opener.If result) laid is = refl
stands_inside item.Else laid is = turns_inside laid.ops laid.blocks is
stands_inside item.End laid is = closes_inside laid.ops laid.blocks is

turn_longer : (ops : List Op) (blocks : List OpenBlock) → length (with_item item.Else (record { ops = ops; blocks = blocks })).ops ≤ length ops + 1
turn_longer ops [] = omega arith
turn_longer ops (block ∷ blocks) = omega (arith, length-append ops (op.Else 0 ∷ []))

close_longer : (ops : List Op) (blocks : List OpenBlock) → length (with_item item.End (record { ops = ops; blocks = blocks })).ops ≤ length ops + 1
close_longer ops [] = omega (arith, length-append ops (op.End ∷ []))
close_longer ops (block ∷ blocks) =
    omega (arith, length-append (filled block.stage block.result block.at (length ops) ops) (op.End ∷ []), length-filled block.stage block.result block.at (length ops) ops)

longer : (passed : Item) (laid : Laid) → length (with_item passed laid).ops ≤ length laid.ops + 1
longer (item.Operator o) laid = omega (arith, length-append laid.ops (o ∷ []))
longer (item.Opens w result) laid = omega (arith, length-append laid.ops (opening w result ∷ []))
longer item.Else laid = turn_longer laid.ops laid.blocks
longer item.End laid = close_longer laid.ops laid.blocks

pub goes_on
    : (start : Input) (laid : Laid) (targets : List ℕ) (ahead : Input) (passed : Item) (all : List ℕ) (after : Input)
    → SoFar start laid targets ahead → item_from (length laid.blocks) targets ahead ≡ Ok ((passed, all), after)
    → standing_of passed (kinds_of laid.blocks) ≡ Inside → SoFar start (with_item passed laid) all after
goes_on start laid targets ahead passed all after so_far e is =
    let reads = reads_next laid targets ahead (passed, all) after e in
    let next = place_of (with_item passed laid) all after in
    let shorter = item_shorter (length (kinds_of laid.blocks)) targets ahead (passed, all) after reads in
    let fewer = item_few (length (kinds_of laid.blocks)) targets ahead (passed, all) after reads in
    let more = longer passed laid in
    let room = so_far.room in
    let few = so_far.few in
    record {
      items = so_far.items ++ passed ∷ [];
      cut = cut_more so_far.items passed (first_place start) (place_of laid targets ahead) next so_far.cut
          (record { spelt = reads; stands = stands_inside passed laid is });
      same = with_items-append so_far.items (passed ∷ []) nothing ∙ ap (λ (l : Laid). with_item passed l) so_far.same;
      room = omega arith;
      few = omega arith;
    }

-- the next item takes a byte
pub takes_byte
    : (laid : Laid) (targets : List ℕ) (ahead : Input) (p : Parsed) (after : Input) → item_from (length laid.blocks) targets ahead ≡ Ok (p, after)
    → length after.left < length ahead.left
takes_byte laid targets ahead p after e = item_shorter (length laid.blocks) targets ahead p after ((item_decides (length laid.blocks) targets ahead).found p after e)

-- Refusals.

refuses_next
    : (start : Input) (laid : Laid) (targets : List ℕ) (ahead : Input) (fault : Fault) → SoFar start laid targets ahead
    → RefusesNext (place_of laid targets ahead) fault → RefusesOperators start fault
refuses_next start laid targets ahead fault so_far refused =
    record { items = so_far.items; here = place_of laid targets ahead; cut = so_far.cut; refused = refused }

pub item_refused
    : (start : Input) (laid : Laid) (targets : List ℕ) (ahead : Input) (fault : CodeFault) → SoFar start laid targets ahead
    → IsFaultOf fault (item_from (length laid.blocks) targets ahead) → IsAmong fault (RefusesOperators start)
item_refused start laid targets ahead (Bytes fault) so_far e =
    let P : ℕ → Type 0 = λ depth. RefusesItem depth targets ahead fault in
    refuses_next start laid targets ahead fault so_far
    (inl (subst P (sym (length-kinds laid.blocks)) ((item_decides (length laid.blocks) targets ahead).refused fault e)))
item_refused start laid targets ahead NoMemory so_far e = tt

-- what stands at a misplaced `else`, and at the last `end`
misplaced_turn
    : (passed : Item) (blocks : List Kind) → standing_of passed blocks ≡ Misplaced → (passed ≡ item.Else) × (open_behind item.Else blocks ≡ None)
misplaced_turn (item.Operator o) blocks is = let bad : ⊥ = cc in absurd bad
misplaced_turn (item.Opens w result) blocks is = let bad : ⊥ = cc in absurd bad
misplaced_turn item.Else [] is = (refl, refl)
misplaced_turn item.Else (kind.Block ∷ blocks) is = (refl, refl)
misplaced_turn item.Else (kind.Loop ∷ blocks) is = (refl, refl)
misplaced_turn item.Else (kind.Then ∷ blocks) is = let bad : ⊥ = cc in absurd bad
misplaced_turn item.Else (kind.Else ∷ blocks) is = (refl, refl)
misplaced_turn item.End [] is = let bad : ⊥ = cc in absurd bad
misplaced_turn item.End (inmost ∷ blocks) is = let bad : ⊥ = cc in absurd bad

last_close : (passed : Item) (blocks : List Kind) → standing_of passed blocks ≡ Last → (passed ≡ item.End) × (blocks ≡ [])
last_close (item.Operator o) blocks is = let bad : ⊥ = cc in absurd bad
last_close (item.Opens w result) blocks is = let bad : ⊥ = cc in absurd bad
last_close item.Else [] is = let bad : ⊥ = cc in absurd bad
last_close item.Else (kind.Block ∷ blocks) is = let bad : ⊥ = cc in absurd bad
last_close item.Else (kind.Loop ∷ blocks) is = let bad : ⊥ = cc in absurd bad
last_close item.Else (kind.Then ∷ blocks) is = let bad : ⊥ = cc in absurd bad
last_close item.Else (kind.Else ∷ blocks) is = let bad : ⊥ = cc in absurd bad
last_close item.End [] is = (refl, refl)
last_close item.End (inmost ∷ blocks) is = let bad : ⊥ = cc in absurd bad

pub turn_refused
    : (start : Input) (laid : Laid) (targets : List ℕ) (ahead : Input) (passed : Item) (all : List ℕ) (after : Input)
    → SoFar start laid targets ahead → item_from (length laid.blocks) targets ahead ≡ Ok ((passed, all), after)
    → standing_of passed (kinds_of laid.blocks) ≡ Misplaced → RefusesOperators start (fault_at refusal.BadNesting ahead.at)
turn_refused start laid targets ahead passed all after so_far e is =
    let turns = misplaced_turn passed (kinds_of laid.blocks) is in
    let P : Item → Type 0 = λ i. ReadsItem (length (kinds_of laid.blocks)) targets ahead (i, all) after in
    let reads = subst P turns.0 (reads_next laid targets ahead (passed, all) after e) in
    refuses_next start laid targets ahead (fault_at refusal.BadNesting ahead.at) so_far
    (inr (inl record { targets = all; after = after; spelt = reads; no_if = turns.1; told = refl }))

rest_at
    : (start : Input) (laid : Laid) (targets all : List ℕ) (ahead after : Input) (left : List ℕ) → SoFar start laid targets ahead
    → ReadsItem (length (kinds_of laid.blocks)) targets ahead (item.End, all) after → kinds_of laid.blocks ≡ []
    → after.left ≡ left → (left ≡ [] → ⊥) → RefusesOperators start (fault_at refusal.RestAfterEnd after.at)
rest_at start laid targets all ahead after [] so_far reads none e some = absurd (some refl)
rest_at start laid targets all ahead after (byte ∷ rest) so_far reads none e some =
    refuses_next start laid targets ahead (fault_at refusal.RestAfterEnd after.at) so_far
    (inr (inr record {
      targets = all;
      after = after;
      byte = byte;
      rest = rest;
      no_block = none;
      spelt = reads;
      more = e;
      told = refl;
    }))

pub rest_refused
    : (start : Input) (laid : Laid) (targets : List ℕ) (ahead : Input) (passed : Item) (all : List ℕ) (after : Input)
    → SoFar start laid targets ahead → item_from (length laid.blocks) targets ahead ≡ Ok ((passed, all), after)
    → standing_of passed (kinds_of laid.blocks) ≡ Last → (after.left ≡ [] → ⊥) → RefusesOperators start (fault_at refusal.RestAfterEnd after.at)
rest_refused start laid targets ahead passed all after so_far e is some =
    let closes = last_close passed (kinds_of laid.blocks) is in
    let P : Item → Type 0 = λ i. ReadsItem (length (kinds_of laid.blocks)) targets ahead (i, all) after in
    let reads = subst P closes.0 (reads_next laid targets ahead (passed, all) after e) in
    rest_at start laid targets all ahead after after.left so_far reads closes.1 refl some

-- The end.

no_blocks : (blocks : List OpenBlock) → kinds_of blocks ≡ [] → blocks ≡ []
no_blocks [] e = refl
no_blocks (block ∷ blocks) e = let bad : ⊥ = cc in absurd bad

closed_ops : (laid : Laid) → laid.blocks ≡ [] → (with_item item.End laid).ops ≡ laid.ops ++ op.End ∷ []
closed_ops laid none = ap (λ (blocks : List OpenBlock). (closed laid.ops blocks).ops) none

pub whole_spelt
    : (start : Input) (laid : Laid) (targets : List ℕ) (ahead : Input) (passed : Item) (all : List ℕ) (after : Input)
    → SoFar start laid targets ahead → item_from (length laid.blocks) targets ahead ≡ Ok ((passed, all), after)
    → standing_of passed (kinds_of laid.blocks) ≡ Last → after.left ≡ [] → SpellsOperators start (with_item passed laid).ops all
whole_spelt start laid targets ahead passed all after so_far e is none =
    let closes = last_close passed (kinds_of laid.blocks) is in
    let P : Item → Type 0 = λ i. ReadsItem (length (kinds_of laid.blocks)) targets ahead (i, all) after in
    let reads = subst P closes.0 (reads_next laid targets ahead (passed, all) after e) in
    let ops = ap (λ (i : Item). (with_item i laid).ops) closes.0 ∙ closed_ops laid (no_blocks laid.blocks closes.1) in
    record {
      items = so_far.items;
      last = place_of laid targets ahead;
      after = after;
      cut = so_far.cut;
      no_block = closes.1;
      closed = reads;
      whole = none;
      laid_out = ops ∙ ap (λ (l : Laid). l.ops ++ op.End ∷ []) (sym so_far.same);
    }
