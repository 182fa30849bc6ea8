-- What contracts see of the adapters: counts of faults, and what a write adds to the bytes that a stream of std tells.
use Rattle.std.specs.Prelude.{ℕ, Bool, List, Option, None, take}
use Rattle.std.specs.Io.KnownBytes.{Appends as Gains}
use Rattle.outside.specs.Library.{Fetched, LibraryState, Tells}
use Rattle.outside.specs.Sink.{SinkState, Takes}

-- a sink over a stream as contracts see it
pub record Counted (W : Type 0) : Type 0 where
  pub stream : W
  pub faults : ℕ

-- a library that tells nothing but its count of faults
abbrev pub untold_library : ℕ → LibraryState
untold_library faults = record { held = None; faults = faults }

-- what such a library gave is known by its calls alone
abbrev pub UntoldGave : (before now : ℕ) → (name : List ℕ) → (most : ℕ) → Fetched → Type 0
UntoldGave before now name most fetched = Tells (untold_library before) (untold_library now) name most fetched

-- a sink that tells nothing but its count of faults
abbrev pub untold_sink : ℕ → SinkState
untold_sink faults = record { written = None; faults = faults }

-- what such a sink took is known by its calls alone
abbrev pub UntoldTook : (before now : ℕ) → (bytes : List ℕ) → (all : Bool) → Type 0
UntoldTook before now bytes all = Takes (untold_sink before) (untold_sink now) bytes all

-- the bytes that the stream tells grew by some of these, from the first on
pub record GainsPrefix (old new : Option (List ℕ)) (bytes : List ℕ) : Type 0 where
  pub count : ℕ
  pub gained : Gains old new (take count bytes)
