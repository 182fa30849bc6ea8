-- The rule of the common queue: its one word counts the draws, and only draws, splits and joins keep it.
use Rattle.std.specs.Prelude.{◌≡◌, ℕ, ◌+◌, ◌-◌, ◌%◌, ◌^◌, List, [], ◌∷◌, ◌++◌, length, slice_index}
use mathlib.Core.Option.{some}
use lib.ListN.{get_elem?}
use Rattle.atomic_table.specs.Table.{State, Me, Step}
use Rattle.view_totals.specs.Totals.{total}
use Rattle.run_queues.specs.declared.drawers.Drawer.{Drawer}

abbrev pub drawer : (parts : ℕ) → (drawn : List ℕ) → Drawer
drawer parts drawn = record { parts = parts; drawn = drawn }

abbrev pub parts_in : Drawer → ℕ
parts_in v = v.parts

abbrev pub draws_in : Drawer → ℕ
draws_in v = length v.drawn

-- there is one word, the number of all draws (as far as a word counts); all views have 65,536 parts, and one without a part has drawn nothing
pub record Counted (s : State (Unit {0}) Drawer) : Type 0 where
  pub words : length s.words ≡ 1
  pub parts : total parts_in s.views ≡ 65536
  pub draws : slice_index s.words 0 ≡ total draws_in s.views % 2 ^ 64
  pub spent : (j : ℕ) (v : Drawer) → get_elem? s.views j ≡ some v → v.parts ≡ 0 → v.drawn ≡ []

-- a draw notes the number that its step gave, and changes nothing else of its pass
abbrev pub drew : Step (Unit {0}) → Me (Unit {0}) Drawer → (found : ℕ) → Me (Unit {0}) Drawer → Type 0
drew st m found n = (n.0 ≡ drawer m.0.parts (m.0.drawn ++ found ∷ [])) × (n.1 ≡ m.1)

-- a second pass: what the first one is left with, and what the second one has
abbrev pub less_one : Drawer → Drawer
less_one v = drawer (v.parts - 1) v.drawn

abbrev pub one_part : Drawer → Drawer
one_part v = drawer 1 []

abbrev pub both_drawn : Drawer → Drawer → Drawer
both_drawn v w = drawer (v.parts + w.parts) (v.drawn ++ w.drawn)
