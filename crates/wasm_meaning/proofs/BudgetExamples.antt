-- A budget that is spent at each place of a short run, and turns of the prices of another one.
use Rattle.std.proofs.Common.{◌≡◌, ℕ, [], ◌∷◌, List, None, replicate, refl}
use Rattle.wasm_ops.specs.Sequence.{Done, Plain, InBlock, InIf}
use Rattle.wasm_ops.specs.declared.host_calls.HostName.TheVariants.{FdWrite}
use Rattle.wasm_ops.specs.declared.operators.Op.TheVariants.{Unreachable, Nop, Br, Call, ConstI32, Drop}
use Rattle.wasm_meaning.proofs.Examples.{bare_function, functions, no_store, store_of, straight, idle, run_first, each_paid}
use Rattle.wasm_meaning.specs.Bytes.{zeros}
use Rattle.wasm_meaning.specs.State.{Instance, Outcome, Fell, Spent, Run}
use Rattle.wasm_meaning.specs.Turns.{groups, turns}

-- how it ended, what is left, and the prices
record Bill : Type 0 where
  outcome : Outcome
  left : ℕ
  prices : List ℕ

abbrev bill : Outcome → ℕ → List ℕ → Bill
bill outcome left prices = record { outcome = outcome; left = left; prices = prices }

abbrev billed : Run → Bill
billed run = bill run.outcome run.left run.prices

-- a constant, an if, a call of a nop, a block with a branch, and a nop: seven units
abbrev short : Instance
short = functions (bare_function (Plain (ConstI32 1) (InIf None (Plain (Call 1) Done) (InBlock None (Plain (Br 0) Done) (Plain Nop Done)))) ∷ bare_function (Plain Nop Done) ∷ [])

abbrev with_budget : ℕ → Bill
with_budget budget = billed (run_first short (idle no_store) budget)

at_const : with_budget 0 ≡ bill Spent 0 (0 ∷ [])
at_const = refl

at_if : with_budget 1 ≡ bill Spent 0 (1 ∷ 0 ∷ [])
at_if = refl

at_call : with_budget 2 ≡ bill Spent 0 (1 ∷ 1 ∷ 0 ∷ [])
at_call = refl

in_the_call : with_budget 3 ≡ bill Spent 0 (1 ∷ 1 ∷ 1 ∷ 0 ∷ [])
in_the_call = refl

at_block : with_budget 4 ≡ bill Spent 0 (1 ∷ 1 ∷ 1 ∷ 1 ∷ 0 ∷ [])
at_block = refl

at_branch : with_budget 5 ≡ bill Spent 0 (1 ∷ 1 ∷ 1 ∷ 1 ∷ 1 ∷ 0 ∷ [])
at_branch = refl

behind_the_block : with_budget 6 ≡ bill Spent 0 (1 ∷ 1 ∷ 1 ∷ 1 ∷ 1 ∷ 1 ∷ 0 ∷ [])
behind_the_block = refl

just_enough : with_budget 7 ≡ bill Fell 0 (each_paid 7)
just_enough = refl

more_than_enough : with_budget 9 ≡ bill Fell 2 (each_paid 7)
more_than_enough = refl

-- with nothing left a run is spent before any trap
spent_before_a_trap : billed (run_first (functions (bare_function (Plain Unreachable Done) ∷ [])) (idle no_store) 0) ≡ bill Spent 0 (0 ∷ [])
spent_before_a_trap = refl

-- a write through no buffer costs 1, one through two buffers 3: with less than that left nothing is written
abbrev writing : Instance
writing = record {
  types = [];
  hosts = FdWrite ∷ [];
  defined = bare_function (straight (ConstI32 1 ∷ ConstI32 0 ∷ ConstI32 2 ∷ ConstI32 16 ∷ Call 0 ∷ Drop ∷ [])) ∷ [];
  most = 0;
}

abbrev writing_within : ℕ → Bill
writing_within budget = billed (run_first writing (idle (store_of (zeros 20) [] [])) budget)

spent_at_the_write : writing_within 6 ≡ bill Spent 2 (1 ∷ 1 ∷ 1 ∷ 1 ∷ 0 ∷ [])
spent_at_the_write = refl

written : writing_within 8 ≡ bill Fell 0 (1 ∷ 1 ∷ 1 ∷ 1 ∷ 3 ∷ 1 ∷ [])
written = refl

-- Turns.

one_at_a_time : groups (5 ∷ 2 ∷ 6 ∷ []) 1 ≡ (5 ∷ []) ∷ (2 ∷ []) ∷ (6 ∷ []) ∷ []
one_at_a_time = refl

first_reaches : groups (5 ∷ 2 ∷ 6 ∷ []) 5 ≡ (5 ∷ []) ∷ (2 ∷ 6 ∷ []) ∷ []
first_reaches = refl

two_reach : groups (5 ∷ 2 ∷ 6 ∷ []) 7 ≡ (5 ∷ 2 ∷ []) ∷ (6 ∷ []) ∷ []
two_reach = refl

none_reaches : turns (5 ∷ 2 ∷ 6 ∷ []) 14 ≡ 1
none_reaches = refl

no_prices : turns [] 7 ≡ 1
no_prices = refl

-- a spent budget's last item opens a turn of its own where the turn before it is full
spent_in_a_turn_of_its_own : groups (1 ∷ 1 ∷ 0 ∷ []) 2 ≡ (1 ∷ 1 ∷ []) ∷ (0 ∷ []) ∷ []
spent_in_a_turn_of_its_own = refl

many : turns (replicate 1000 1) 7 ≡ 143
many = refl
