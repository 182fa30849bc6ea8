-- What contracts see of a pool and of its passes, and what its calls give.
use Rattle.std.specs.Prelude.{◌≡◌, ℕ, ◌+◌, ◌-◌, ◌<◌, ◌≢◌, Bool, true, false, List, [], ◌∷◌, ◌++◌, length, slice_get, Option, Some, None}
use Rattle.atomic_table.specs.Seated.{TableId}
use Rattle.wasm_store.specs.View.{View, empty}
use Rattle.memory_pool.specs.Moves.{try_of}
use Rattle.memory_pool.specs.declared.movers.Found.{Found}
use Rattle.memory_pool.specs.declared.movers.Found.TheVariants.{Empty, Full}
use Rattle.memory_pool.specs.declared.movers.Try.{Try}

-- which pool it is, and the pages of its berths
pub record PoolView : Type 0 where
  pub id : TableId
  pub pages : ℕ

-- which pool a pass is for, its parts of 65,536, all its tries in order, and how many berths it has taken and given back
pub record PassView : Type 0 where
  pub id : TableId
  pub pages : ℕ
  pub parts : ℕ
  pub tries : List Try
  pub taken : ℕ
  pub given : ℕ

-- how many slots there are
abbrev pub slots_of : PoolView → ℕ
slots_of pool = pool.id.slots

abbrev pub IsPassOf : PoolView → PassView → Type 0
IsPassOf pool pass = (pass.id ≡ pool.id) × (pass.pages ≡ pool.pages)

-- the first pass of a pool has all parts
abbrev pub first_pass : PoolView → PassView
first_pass pool = record { id = pool.id; pages = pool.pages; parts = 65536; tries = []; taken = 0; given = 0 }

-- what is left where a second pass was made, and the second one
abbrev pub apart : PassView → PassView
apart pass = record pass { parts = pass.parts - 1 }

abbrev pub second : PassView → PassView
second pass = record { id = pass.id; pages = pass.pages; parts = 1; tries = []; taken = 0; given = 0 }

-- a pass that took another one back
abbrev pub together : PassView → PassView → PassView
together pass other = record { id = pass.id; pages = pass.pages; parts = pass.parts + other.parts; tries = pass.tries ++ other.tries; taken = pass.taken + other.taken; given = pass.given + other.given }

-- after these tries more, and so many berths taken and given back
abbrev pub after : PassView → List Try → (taken given : ℕ) → PassView
after pass more taken given = record { id = pass.id; pages = pass.pages; parts = pass.parts; tries = pass.tries ++ more; taken = pass.taken + taken; given = pass.given + given }

-- tries of the first slots, one after another, none of which found what was wanted
pub record Misses (giving : Bool) (wanted : Found) (seen : List Try) : Type 0 where
  pub each : (k : ℕ) (t : Try) → slice_get seen k ≡ Some t → (t.giving ≡ giving) × (t.slot ≡ k) × (t.found ≢ wanted)

-- a clean berth of the pool's pages, from the first slot that this call found full; or none, and this call found no slot full
abbrev pub IsTaken : PoolView → (old new : PassView) → Option View → Type 0
IsTaken pool old new None = (seen : List Try) × (length seen ≡ slots_of pool) × Misses false Full seen × (new ≡ after old seen 0 0)
IsTaken pool old new (Some berth) =
    (berth ≡ empty pool.pages) × ((seen : List Try) × (length seen < slots_of pool) × Misses false Full seen × (new ≡ after old (seen ++ try_of false (length seen) Full ∷ []) 1 0))
