-- The bytes that a sink has taken, where it tells them, and what a delivery of bytes adds to them.
use Rattle.std.specs.Prelude.{◌≡◌, ℕ, ◌≤◌, Bool, true, false, List, Option, take}
use Rattle.std.specs.Io.KnownBytes.{append_known}
use Rattle.outside.specs.Faults.{Rose}

-- a sink as contracts see it: all the bytes that it has taken, where it tells them,
-- and how many of its calls have failed
pub record SinkState : Type 0 where
  pub written : Option (List ℕ)
  pub faults : ℕ

-- the bytes were added, and a sink tells or does not tell as it did before
pub record Appends (old new : SinkState) (bytes : List ℕ) : Type 0 where
  pub appended : new.written ≡ append_known old.written bytes

-- some of the bytes were added, from the first on
pub record TakesPrefix (old new : SinkState) (bytes : List ℕ) : Type 0 where
  pub count : ℕ
  pub taken : Appends old new (take count bytes)

-- a call of `write` with these bytes took all of them; or it failed, was counted, and took some of them
abbrev pub IsTaken : (old new : SinkState) (bytes : List ℕ) (all : Bool) → Type 0
IsTaken old new bytes true = Appends old new bytes
IsTaken old new bytes false = TakesPrefix old new bytes × Rose old.faults new.faults

-- what is known of a call of `write` between two states, which took all of these bytes or failed
pub record Takes (old new : SinkState) (bytes : List ℕ) (all : Bool) : Type 0 where
  pub taken : IsTaken old new bytes all
  pub later : old.faults ≤ new.faults
