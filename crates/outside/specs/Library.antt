-- What a library holds, which bytes a read of it answers, and when each of its answers other than bytes comes.
use Rattle.std.specs.Prelude.{◌≡◌, ℕ, ◌+◌, ◌<◌, ◌≤◌, List, Option, None, Some, Result, Ok, Err, IfSome, slice_index, take, Vec, ⊤}
use Rattle.std.specs.Option.{option_map}
use Rattle.std.specs.declared.alloc.Global.{Global}
use Rattle.outside.specs.Faults.{Rose}
use Rattle.outside.specs.declared.libraries.Fetch.{Fetch}
use Rattle.outside.specs.declared.libraries.Fetch.TheVariants.{Failed, Missing, NoMemory}

-- of each name the bytes of its file, or none where no file has the name
abbrev pub Files : Type 0
Files = List ℕ → Option (List ℕ)

-- a library as contracts see it: which names it holds and with what bytes, where it tells that,
-- and how many of its calls have failed
pub record LibraryState : Type 0 where
  pub held : Option Files
  pub faults : ℕ

-- where the library tells what it holds: a file has the name, and these are its first most + 1 bytes,
-- which are all of it where it has no more than most
abbrev pub Held : Option Files → (name : List ℕ) → (most : ℕ) → (bytes : List ℕ) → Type 0
Held held name most bytes = IfSome held (λ files. option_map (take (most + 1)) (files name) ≡ Some bytes)

-- why a read said that no file has the name
abbrev pub MissingCause : Option Files → (name : List ℕ) → (before now : ℕ) → Type 0
MissingCause (Some files) name before now = (files name ≡ None) × (before ≡ now)
MissingCause None name before now = Rose before now

-- why a read answered no bytes; only want of memory has no cause
abbrev pub FetchCause : (name : List ℕ) → (old new : LibraryState) → Fetch → Type 0
FetchCause name old new Failed = Rose old.faults new.faults
FetchCause name old new Missing = MissingCause old.held name old.faults new.faults
FetchCause name old new NoMemory = ⊤

-- what a call of `read` came to, where memory did not run out: it answered the bytes, or that no file has the name; or it failed
pub data Fetched : Type 0 where
  Gives : (answer : Option (List ℕ)) → Fetched
  Fails : Fetched

-- the result of a call is known to be what the call came to
abbrev pub CameTo : Result (Vec ℕ Global) Fetch → (gave : Fetched → Type 0) → Type 0
CameTo (Ok bytes) gave = gave (Gives (Some bytes.items))
CameTo (Err Missing) gave = gave (Gives None)
CameTo (Err Failed) gave = gave Fails
CameTo (Err NoMemory) gave = ⊤

-- an answer is that of the held file, where the library tells it, and a name that is not held leaves the count as it was; else a name has
-- no file only where the count rose; and so it is for a failure
abbrev pub IsTold : Option Files → (name : List ℕ) → (most before now : ℕ) → Fetched → Type 0
IsTold (Some files) name most before now (Gives None) = (files name ≡ None) × (before ≡ now)
IsTold (Some files) name most before now (Gives (Some bytes)) = option_map (take (most + 1)) (files name) ≡ Some bytes
IsTold None name most before now (Gives None) = Rose before now
IsTold None name most before now (Gives (Some bytes)) = ⊤
IsTold held name most before now Fails = Rose before now

-- these numbers are bytes
abbrev pub AreBytes : List ℕ → Type 0
AreBytes bytes = (k : ℕ) → slice_index bytes k < 256

-- what a read gives are bytes
abbrev pub GivesBytes : Fetched → Type 0
GivesBytes (Gives (Some bytes)) = AreBytes bytes
GivesBytes (Gives None) = ⊤
GivesBytes Fails = ⊤

-- what is known of what a read came to between two states
pub record Tells (old new : LibraryState) (name : List ℕ) (most : ℕ) (fetched : Fetched) : Type 0 where
  pub told : IsTold old.held name most old.faults new.faults fetched
  pub bytes : GivesBytes fetched
  pub same : new.held ≡ old.held
  pub later : old.faults ≤ new.faults
