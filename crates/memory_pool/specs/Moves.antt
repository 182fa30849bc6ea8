-- What each atomic step of a pool tells the pass that makes it.
use Rattle.std.specs.Prelude.{◌≡◌, ℕ, ◌+◌, ◌-◌, ◌≢◌, Bool, true, false, List, [], ◌∷◌, ◌++◌, Option, Some, None}
use Rattle.atomic_table.specs.Table.{Me, Step, rest}
use Rattle.wasm_store.specs.View.{View, empty}
use Rattle.memory_pool.specs.Pooling.{found_of, mover}
use Rattle.memory_pool.specs.declared.movers.Found.{Found}
use Rattle.memory_pool.specs.declared.movers.Found.TheVariants.{Empty, Full}
use Rattle.memory_pool.specs.declared.movers.Mover.{Mover}
use Rattle.memory_pool.specs.declared.movers.Moving.TheVariants.{Nothing, Taking, Giving}
use Rattle.memory_pool.specs.declared.movers.Try.{Try}

abbrev pub try_of : (giving : Bool) → (slot : ℕ) → Found → Try
try_of giving slot found = record { giving = giving; slot = slot; found = found }

-- a try that moved nothing
abbrev pub tried : Mover → (giving : Bool) → (slot : ℕ) → Found → Mover
tried v giving slot found = mover v.parts v.pages v.moving (v.tries ++ try_of giving slot found ∷ []) v.taken v.given

abbrev pub taking : Mover → (slot : ℕ) → Mover
taking v slot = mover v.parts v.pages (Taking slot) (v.tries ++ try_of false slot Full ∷ []) (v.taken + 1) v.given

abbrev pub giving_to : Mover → (slot : ℕ) → Mover
giving_to v slot = mover v.parts v.pages (Giving slot) (v.tries ++ try_of true slot Empty ∷ []) v.taken (v.given + 1)

abbrev pub still : Mover → Mover
still v = mover v.parts v.pages Nothing v.tries v.taken v.given

-- an exchange of a full slot's word for busy: the slot is moved, and a clean berth of the pool's pages is out; or the value found is noted
abbrev pub took : Step (Option View) → Me (Option View) Mover → (found : ℕ) → Me (Option View) Mover → Type 0
took st m found n =
    (found ≡ 1 → n ≡ (taking m.0 st.word, (st.word, Some (empty m.0.pages)) ∷ m.1)) × (found ≢ 1 → n ≡ (tried m.0 false st.word (found_of found), m.1))

-- an exchange of an empty slot's word for busy: the slot is moved, and nothing was at home; or the value found is noted
abbrev pub gave : Step (Option View) → Me (Option View) Mover → (found : ℕ) → Me (Option View) Mover → Type 0
gave st m found n =
    (found ≡ 0 → n ≡ (giving_to m.0 st.word, (st.word, None) ∷ m.1)) × (found ≢ 0 → n ≡ (tried m.0 true st.word (found_of found), m.1))

-- a store of empty behind a taking, or of full behind a giving: the slot is no longer moved
abbrev pub ended : Step (Option View) → Me (Option View) Mover → (stored : ℕ) → Me (Option View) Mover → Type 0
ended st m stored n = n ≡ (still m.0, rest m.1)

-- a second pass has moved nothing
abbrev pub less_one : Mover → Mover
less_one v = mover (v.parts - 1) v.pages v.moving v.tries v.taken v.given

abbrev pub one_part : Mover → Mover
one_part v = mover 1 v.pages Nothing [] 0 0

abbrev pub both_moved : Mover → Mover → Mover
both_moved v w = mover (v.parts + w.parts) v.pages v.moving (v.tries ++ w.tries) (v.taken + w.taken) (v.given + w.given)
