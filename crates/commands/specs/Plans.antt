-- What a command reads, in which order, and how it ends by what it has read.
use Rattle.std.specs.Prelude.{◌≡◌, ◌⊎◌, ℕ, suc, nat_lt, if◌then◌else◌, ◌+◌, List, [], ◌∷◌, length, take, Option, None, Some, IfSome}
use Rattle.outside.specs.Library.{AreBytes, Fails, Fetched, Files, Gives, LibraryState}
use Rattle.commands.specs.Endings.{Due, Ended, due, not_read}

-- a plan: an ending; or the name of a file, the most bytes that it may have, and what follows for its bytes or for none
pub data Plan : Type 0 where
  Ends : (e : Ended) → Plan
  Reads : (name : List ℕ) (most : ℕ) (next : Option (List ℕ) → Plan) → Plan

-- the ending of a plan over files that are told
abbrev pub over : Files → Plan → Ended
over files (Ends e) = e
over files (Reads name most next) = over files (next (files name))

-- The files that the plan reads of these, up to its end, are bytes: all of a file that is no longer than it may be, and
-- else as much as shows that it is longer.
abbrev pub ReadsBytes : Files → Plan → Type 0
ReadsBytes files (Ends e) = Unit {0}
ReadsBytes files (Reads name most next) =
    IfSome (files name) (λ file. AreBytes (take (most + 1) file)) × ReadsBytes files (next (files name))

-- The parts that plans are made of.

-- what a check makes of a file's bytes: the command is refused, or goes on with a value
pub data Step (A : Type 0) : Type 0 where
  Stops : (e : Ended) → Step A
  Goes : (value : A) → Step A

-- the plan goes on with the value, if there is one
abbrev pub go_on : {A : Type 0} → (next : A → Plan) → Step A → Plan
go_on next (Stops e) = Ends e
go_on next (Goes value) = next value

-- the plan from the bytes of this file on: where there is none, it cannot be read
abbrev pub found : {A : Type 0} → (name : List ℕ) → (check : List ℕ → Step A) → (next : A → Plan) → Option (List ℕ) → Plan
found name check next None = Ends (not_read name)
found name check next (Some bytes) = go_on next (check bytes)

-- this file is read, and checked so, and then
abbrev pub checked_file : {A : Type 0} → (name : List ℕ) (most : ℕ) → (check : List ℕ → Step A) → (next : A → Plan) → Plan
checked_file name most check next = Reads name most (found name check next)

-- a file is refused so where it has more bytes than it may, and else checked
abbrev pub limited : {A : Type 0} → (most : ℕ) → (too_long : Ended) → (check : List ℕ → Step A) → List ℕ → Step A
limited most too_long check bytes = if nat_lt most (length bytes) then Stops too_long else check bytes

-- the files of these items are read, each is checked by its number before the next one is read, and then; the items may stand in a file that was read before
abbrev pub checked_files
    : {I A : Type 0} → (name_of : I → List ℕ) (most : ℕ) → (check : ℕ → I → List ℕ → Step A) → (number : ℕ) (items : List I) → (next : List A → Plan) → Plan
checked_files name_of most check number [] next = next []
checked_files name_of most check number (item ∷ items) next =
    checked_file (name_of item) most (check number item)
    (λ value. checked_files name_of most check (suc number) items (λ values. next (value ∷ values)))

-- A plan that is carried out by reads.

-- the reads of the plan were made, in its order and no others, from one state of a library to another, and it ended so by what they gave;
-- or the last of them failed
abbrev pub Walks
    : {L : Type 0} → (gave : L → L → List ℕ → ℕ → Fetched → Type 0) → Plan → (old new : L) → Ended → Type 0
Walks gave (Ends planned) old new e = (e ≡ planned) × (new ≡ old)
Walks {L} gave (Reads name most next) old new e =
    (gave old new name most Fails × (e ≡ not_read name))
    ⊎ ((between : L) × (answer : Option (List ℕ)) × gave old between name most (Gives answer) × Walks gave (next answer) between new e)

-- what is due by such reads
pub record Comes {L : Type 0} (gave : L → L → List ℕ → ℕ → Fetched → Type 0) (plan : Plan) (old new : L) (planned : Due) : Type 0 where
  pub ending : Ended
  pub walk : Walks gave plan old new ending
  pub is_due : planned ≡ due ending

-- Reads with which a plan begins: whatever ends the plan that is left, ends the whole.
pub record Leads {L : Type 0} (gave : L → L → List ℕ → ℕ → Fetched → Type 0) (plan left : Plan) (old between : L) : Type 0 where
  pub leads : (new : L) (e : Ended) → Walks gave left between new e → Walks gave plan old new e

-- The reads of a plan came to a read fault by the last of them: the file of this name is none, and the call either failed, or answered so and left
-- the count of faults as it was.
pub record IsUnread {L : Type 0} (state : L → LibraryState) (gave : L → L → List ℕ → ℕ → Fetched → Type 0) (files : Files) (new : L) (e : Ended) : Type 0 where
  pub between : L
  pub name : List ℕ
  pub most : ℕ
  pub named : e ≡ not_read name
  pub why : gave between new name most Fails ⊎ ((files name ≡ None) × ((state between).faults ≡ (state new).faults))
