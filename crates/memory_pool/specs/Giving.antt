-- What a give answers.
use Rattle.std.specs.Prelude.{◌≡◌, ℕ, ◌<◌, ◌≢◌, ◌++◌, true, List, [], ◌∷◌, length}
use Rattle.wasm_store.specs.View.{View}
use Rattle.memory_pool.specs.Moves.{try_of}
use Rattle.memory_pool.specs.Passing.{PoolView, PassView, slots_of, after, Misses}
use Rattle.memory_pool.specs.declared.answers.Given.{Given}
use Rattle.memory_pool.specs.declared.answers.Given.TheVariants.{Home, Kept}
use Rattle.memory_pool.specs.declared.movers.Found.{Found}
use Rattle.memory_pool.specs.declared.movers.Found.TheVariants.{Empty}
use Rattle.memory_pool.specs.declared.movers.Try.{Try}

-- the berth is at home in the first slot that this call found empty; or it comes back, and this call found no slot empty
abbrev pub IsGiven : PoolView → (old new : PassView) → View → Given → Type 0
IsGiven pool old new berth Home = (seen : List Try) × (length seen < slots_of pool) × Misses true Empty seen × (new ≡ after old (seen ++ try_of true (length seen) Empty ∷ []) 0 1)
IsGiven pool old new berth (Kept back) = (back ≡ berth) × ((seen : List Try) × (length seen ≡ slots_of pool) × Misses true Empty seen × (new ≡ after old seen 0 0))

-- one slot was tried
abbrev pub HasTried : (old new : PassView) → View → (slot : ℕ) → Given → Type 0
HasTried old new berth slot Home = new ≡ after old (try_of true slot Empty ∷ []) 0 1
HasTried old new berth slot (Kept back) = (back ≡ berth) × ((f : Found) × (f ≢ Empty) × (new ≡ after old (try_of true slot f ∷ []) 0 0))
