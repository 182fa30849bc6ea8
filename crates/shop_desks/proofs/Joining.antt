-- A search, of what its parts came to one after another.
use Rattle.std.proofs.Common.{◌≡◌, ◌⊎◌, ⊎_elim, inl, inr, ℕ, zero, suc, ◌<◌, ◌≤◌, Bool, false, List, length, Option, Some, None, refl, ap, subst, ◌∙◌, arith}
use Rattle.std.proofs.lemmas.Bool.Decides.{not_from_Decides}
use Rattle.std.specs.Bool.{Decides}
use Rattle.memory_pool.specs.Passing as pools
use Rattle.memory_pool.specs.Passing.{PoolView}
use Rattle.place_lists.specs.Inboxes as inboxes
use Rattle.posted_jobs.specs.Posting.{PostedView}
use Rattle.posted_jobs.specs.Rounds.{Pass, IsRound}
use Rattle.run_queues.specs.Queue.{Queue}
use Rattle.wasm_store.specs.View.{View}
use Rattle.shop_desks.specs.Nexts.{Standing, standing, IsStocked, IsBegun, IsResumed, with_entries, Searches, IsSearch}

-- a queue of the same policy and room
abbrev pub IsSameQueue : (old new : Queue) → Type 0
IsSameQueue old new = (new.policy ≡ old.policy) × (new.room ≡ old.room)

with-entries : (old new : Queue) → IsSameQueue old new → new ≡ with_entries old new.entries
with-entries old new same = ap (λ p. record new { policy = p }) same.0 ∙ ap (λ r. record new { policy = old.policy; room = r }) same.1

stocked-same : (p q : PoolView) (old new : pools.PassView) (stock stock' : List View) (berth : Option ℕ) → p ≡ q → IsStocked p old new stock stock' berth → IsStocked q old new stock stock' berth
stocked-same p q old new stock stock' berth same stocked = subst (λ (x : PoolView). IsStocked x old new stock stock' berth) same stocked

module _ (p q : PoolView) (same : p ≡ q) (old : Standing) (berth : Option ℕ) (pool_pass : pools.PassView) (stock : List View) (stocked : IsStocked p old.pool_pass pool_pass old.stock stock berth) where
  -- a request begins
  pub search-begun : (pass : Pass) (inbox : inboxes.PassView) (job : PostedView) → IsBegun berth old.inbox_pass inbox old.board_pass pass (Some job) → Searches q old (standing pass pool_pass inbox old.local stock) (Some job)
  search-begun pass inbox job begun =
      (berth, record old { pool_pass = pool_pass; stock = stock }, (stocked-same p q old.pool_pass pool_pass old.stock stock berth same stocked, refl), inl (begun, refl))

  -- none begins, and one of the own queue goes on
  pub search-resumed : (between pass : Pass) (inbox : inboxes.PassView) (local : Queue) (job : PostedView) → IsBegun berth old.inbox_pass inbox old.board_pass between None
      → IsResumed old.local.policy old.local.entries local.entries between pass (Some job) → IsSameQueue old.local local → Searches q old (standing pass pool_pass inbox local stock) (Some job)
  search-resumed between pass inbox local job begun resumed queue = (
    berth,
    record old { pool_pass = pool_pass; stock = stock },
    (stocked-same p q old.pool_pass pool_pass old.stock stock berth same stocked, refl),
    inr (standing between pool_pass inbox old.local stock, (begun, refl), inl (resumed, ap (λ (l : Queue). standing pass pool_pass inbox l stock) (with-entries old.local local queue))),
  )

  -- neither, and all places are looked at
  pub search-round : (between middle pass : Pass) (inbox : inboxes.PassView) (local : Queue) (places : ℕ) (found : Option PostedView) → IsBegun berth old.inbox_pass inbox old.board_pass between None
      → IsResumed old.local.policy old.local.entries local.entries between middle None → IsSameQueue old.local local → places ≡ 256 → IsRound berth places middle pass found → Searches q old (standing pass pool_pass inbox local stock) found
  search-round between middle pass inbox local places None begun resumed queue all round = (
    berth,
    record old { pool_pass = pool_pass; stock = stock },
    (stocked-same p q old.pool_pass pool_pass old.stock stock berth same stocked, refl),
    (
      standing between pool_pass inbox old.local stock,
      (begun, refl),
      (standing middle pool_pass inbox local stock, (resumed, ap (λ (l : Queue). standing middle pool_pass inbox l stock) (with-entries old.local local queue)), (subst (λ (n : ℕ). IsRound berth n middle pass None) all round, refl)),
    ),
  )
  search-round between middle pass inbox local places (Some job) begun resumed queue all round = (
    berth,
    record old { pool_pass = pool_pass; stock = stock },
    (stocked-same p q old.pool_pass pool_pass old.stock stock berth same stocked, refl),
    inr (
      standing between pool_pass inbox old.local stock,
      (begun, refl),
      inr (standing middle pool_pass inbox local stock, (resumed, ap (λ (l : Queue). standing middle pool_pass inbox l stock) (with-entries old.local local queue)), (subst (λ (n : ℕ). IsRound berth n middle pass (Some job)) all round, refl)),
    ),
  )

-- the own queue was full, and was gone through first
pub search-full : (p : PoolView) (old new : Standing) (pass pass' : Pass) (local local' : Queue) (found : Option PostedView) → 256 ≤ length old.local.entries → IsResumed old.local.policy old.local.entries local.entries old.board_pass pass None → IsSameQueue old.local local
    → pass' ≡ pass → local' ≡ local → Searches p (record old { board_pass = pass'; local = local' }) new found → IsSearch p old new found
search-full p old new pass pass' local local' None full resumed queue here there searches =
    let between : Standing = record old { board_pass = pass; local = local } in
    let s : Searches p between new None = subst (λ (x : Standing). Searches p x new None) (ap (λ (x : Pass). record old { board_pass = x; local = local' }) here ∙ ap (λ (x : Queue). record old { board_pass = pass; local = x }) there) searches in
    inr (full, (between, (resumed, ap (λ (x : Queue). record old { board_pass = pass; local = x }) (with-entries old.local local queue)), s))
search-full p old new pass pass' local local' (Some job) full resumed queue here there searches =
    let between : Standing = record old { board_pass = pass; local = local } in
    let s : Searches p between new (Some job) = subst (λ (x : Standing). Searches p x new (Some job)) (ap (λ (x : Pass). record old { board_pass = x; local = local' }) here ∙ ap (λ (x : Queue). record old { board_pass = pass; local = x }) there) searches in
    inr (full, inr (between, (resumed, ap (λ (x : Queue). record old { board_pass = pass; local = x }) (with-entries old.local local queue)), s))

below-or : (m n : ℕ) → (m < n) ⊎ (n ≤ m)
below-or m zero = inr (omega arith)
below-or zero (suc n) = inl (omega arith)
below-or (suc m) (suc n) = ⊎_elim (λ low. inl (omega (arith, low))) (λ high. inr (omega (arith, high))) (below-or m n)

-- it was not full
pub search-few : (p : PoolView) (old new : Standing) (pass : Pass) (local : Queue) (found : Option PostedView) (full : Bool) → Decides full (256 ≤ length old.local.entries) → full ≡ false → pass ≡ old.board_pass → local ≡ old.local
    → Searches p (record old { board_pass = pass; local = local }) new found → IsSearch p old new found
search-few p old new pass local found full decides not here there searches =
    let few : length old.local.entries < 256 = ⊎_elim (λ low. low) (λ high. absurd (not_from_Decides full decides not high)) (below-or (length old.local.entries) 256) in
    inl (few, subst (λ (x : Standing). Searches p x new found) (ap (λ (x : Pass). record old { board_pass = x; local = local }) here ∙ ap (λ (x : Queue). record old { local = x }) there) searches)
