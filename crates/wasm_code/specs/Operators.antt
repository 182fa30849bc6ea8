-- The operators of a body behind its locals, as they are laid out item by item (WebAssembly Core 1.0, section 5.4.1).
use Rattle.std.specs.Prelude.{◌≡◌, ℕ, List, [], ◌∷◌, ◌++◌, length}
use Rattle.wasm_ops.specs.declared.faults.Fault.{Fault}
use Rattle.wasm_ops.specs.declared.operators.Op.{Op}
use Rattle.wasm_ops.specs.declared.operators.Op.TheVariants as op
use Rattle.wasm_ops.specs.Input.{Input}
use Rattle.wasm_code.specs.declared.items.Item.{Item}
use Rattle.wasm_code.specs.declared.items.Item.TheVariants as item
use Rattle.wasm_code.specs.Items.{ReadsItem}
use Rattle.wasm_code.specs.Bodies.{Place, AreCut, first_place, RefusesNext}
use Rattle.wasm_code.specs.Laying.{with_items, nothing}

-- all bytes from a place on are the items of a sequence and the closing `end`, and these are its operators and labels
pub record SpellsOperators (start : Input) (ops : List Op) (targets : List ℕ) : Type 0 where
  pub items : List Item
  pub last : Place
  pub after : Input
  pub cut : AreCut items (first_place start) last
  pub no_block : last.blocks ≡ []
  pub closed : ReadsItem (length last.blocks) last.targets last.ahead (item.End, targets) after
  pub whole : after.left ≡ []
  pub laid_out : ops ≡ (with_items items nothing).ops ++ op.End ∷ []

-- all items before the one at hand are spelt, and this one is refused
pub record RefusesOperators (start : Input) (fault : Fault) : Type 0 where
  pub items : List Item
  pub here : Place
  pub cut : AreCut items (first_place start) here
  pub refused : RefusesNext here fault
