-- The generator of the load: a linear congruential one, whose states are numbers of 64 bits.
use Rattle.std.specs.Prelude.{ℕ, zero, suc, ◌+◌, ◌*◌, ◌/◌, ◌%◌, ◌^◌}

-- the state behind a state
unfoldable pub next_state : ℕ → ℕ
next_state x = (x * 6364136223846793005 + 1442695040888963407) % 2 ^ 64

-- the state behind so many steps from the first one
abbrev pub state_after : (start steps : ℕ) → ℕ
state_after start zero = start
state_after start (suc steps) = next_state (state_after start steps)

-- what is drawn at a state: all but its lowest 33 bits
abbrev pub drawn_at : (state : ℕ) → ℕ
drawn_at state = state / 2 ^ 33

-- what is drawn for the request of this place, from 0 on: there is a step for each request up to it
abbrev pub drawn : (start place : ℕ) → ℕ
drawn start place = drawn_at (state_after start (suc place))
