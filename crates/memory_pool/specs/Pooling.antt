-- The pool rule: what holds of the words, of the berths at home and of what all passes know, between any two atomic steps.
use Rattle.std.specs.Prelude.{◌≡◌, ℕ, zero, suc, ◌+◌, ◌<◌, ◌≤◌, ◌==◌, List, [], length, slice_index, Option, Some, None, if◌then◌else◌}
use mathlib.Core.Option.{some}
use mathlib.Core.Option as logic
use lib.ListN.{get_elem?}
use Rattle.atomic_table.specs.Table.{State}
use Rattle.view_totals.specs.Totals.{total}
use Rattle.wasm_store.specs.View.{View, empty}
use Rattle.memory_pool.specs.declared.movers.Found.{Found}
use Rattle.memory_pool.specs.declared.movers.Found.TheVariants.{Empty, Full, Busy}
use Rattle.memory_pool.specs.declared.movers.Mover.{Mover}
use Rattle.memory_pool.specs.declared.movers.Moving.{Moving}
use Rattle.memory_pool.specs.declared.movers.Moving.TheVariants.{Nothing, Taking, Giving}
use Rattle.memory_pool.specs.declared.movers.Try.{Try}

-- what a word tells: 0 empty, 1 full, 2 busy
abbrev pub found_of : ℕ → Found
found_of zero = Empty
found_of (suc zero) = Full
found_of (suc (suc _)) = Busy

abbrev pub mover : (parts pages : ℕ) → Moving → (tries : List Try) → (taken given : ℕ) → Mover
mover parts pages moving tries taken given = record { parts = parts; pages = pages; moving = moving; tries = tries; taken = taken; given = given }

abbrev pub first_mover : (pages : ℕ) → Mover
first_mover pages = mover 65536 pages Nothing [] 0 0

-- a view that a join leaves: it has no part, moves nothing and has moved nothing
abbrev pub spent_mover : Mover
spent_mover = mover 0 0 Nothing [] 0 0

abbrev pub parts_in : Mover → ℕ
parts_in v = v.parts

abbrev pub taken_in : Mover → ℕ
taken_in v = v.taken

abbrev pub given_in : Mover → ℕ
given_in v = v.given

-- 1 where the slot is the one that is moved, else 0
abbrev pub moved_at : (slot : ℕ) → Moving → ℕ
moved_at slot Nothing = 0
moved_at slot (Taking i) = if i == slot then 1 else 0
moved_at slot (Giving i) = if i == slot then 1 else 0

abbrev pub moves : (slot : ℕ) → Mover → ℕ
moves slot v = moved_at slot v.moving

-- how many berths are on their way home
abbrev pub coming : Moving → ℕ
coming Nothing = 0
coming (Taking _) = 0
coming (Giving _) = 1

abbrev pub coming_in : Mover → ℕ
coming_in v = coming v.moving

abbrev pub is_full : (word : ℕ) → ℕ
is_full word = if word == 1 then 1 else 0

abbrev pub is_busy : (word : ℕ) → ℕ
is_busy word = if word == 2 then 1 else 0

-- what a slot's word says of it
pub record SlotStands (pages : ℕ) (homes : List (logic.Option (Option View))) (views : List Mover) (slot word : ℕ) : Type 0 where
  pub known : word ≤ 2
  -- full: a clean berth of the pool's pages is at home
  pub full : word ≡ 1 → get_elem? homes slot ≡ some (some (Some (empty pages)))
  -- empty: none is at home
  pub empty : word ≡ 0 → get_elem? homes slot ≡ some (some None)
  -- busy: exactly one pass moves it, and else none does
  pub movers : total (moves slot) views ≡ is_busy word

-- what is known of a pass
pub record Knows (pages : ℕ) (v : Mover) : Type 0 where
  pub same : 0 < v.parts → v.pages ≡ pages
  pub spent : v.parts ≡ 0 → (v.moving ≡ Nothing) × (v.tries ≡ []) × (v.taken ≡ 0) × (v.given ≡ 0)

-- the rule: besides, the berths at home and on their way there are those of the beginning and those that were given, less those that were taken
pub record Pooled (pages : ℕ) (s : State (Option View) Mover) : Type 0 where
  pub wide : length s.words ≡ length s.homes
  pub slots : (slot : ℕ) → slot < length s.homes → SlotStands pages s.homes s.views slot (slice_index s.words slot)
  pub parts : total parts_in s.views ≡ 65536
  pub seats : (j : ℕ) (v : Mover) → get_elem? s.views j ≡ some v → Knows pages v
  pub stock : total given_in s.views + length s.words ≡ total taken_in s.views + total is_full s.words + total coming_in s.views
