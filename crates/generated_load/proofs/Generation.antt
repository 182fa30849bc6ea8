-- A step of the generator, as the code takes it: a product and a sum, each modulo 2^64.
use Rattle.std.proofs.Common.{◌≡◌, ℕ, ◌+◌, ◌*◌, ◌%◌, ◌^◌, ◌<◌}
use Rattle.std.proofs.Math.Nat.{mod-add-mod}
use Rattle.std.proofs.lemmas.Nat.{shr_below}
use Rattle.generated_load.specs.Generator.{next_state, drawn_at}

pub stepped : (x : ℕ) → ((x * 6364136223846793005) % 2 ^ 64 + 1442695040888963407) % 2 ^ 64 ≡ next_state x
unfolding next_state
stepped x = mod-add-mod (x * 6364136223846793005) (2 ^ 64) 1442695040888963407

pub small : (state : ℕ) → state < 2 ^ 64 → drawn_at state < 2 ^ 31
small state below = shr_below state 31 33 below
