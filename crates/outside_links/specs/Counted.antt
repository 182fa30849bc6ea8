-- What contracts see of the adapters over the system: their flags and counts, and no bytes.
use Rattle.std.specs.Prelude.{ℕ, Bool, List, Option, None, take}
use Rattle.std.specs.Io.KnownBytes.{Appends}
use Rattle.outside_links.specs.Link.{LinkState}

-- a link over a stream of std
pub record Streaming (S : Type 0) : Type 0 where
  pub stream : S
  pub ended : Bool
  pub used : Bool
  pub faults : ℕ

-- it tells no bytes as a link
abbrev pub untold_link : {S : Type 0} → Streaming S → LinkState
untold_link link = record { left = None; written = None; ended = link.ended; used = link.used; faults = link.faults }

-- what its calls exchanged is known by the calls alone
abbrev pub UntoldExchanges : {S : Type 0} → (old new : Streaming S) → (read sent : List ℕ) → Type 0
UntoldExchanges old new read sent = Unit {0}

-- the bytes that a stream tells grew by some of these, from the first on
pub record GainsPrefix (old new : Option (List ℕ)) (bytes : List ℕ) : Type 0 where
  pub count : ℕ
  pub gained : Appends old new (take count bytes)
