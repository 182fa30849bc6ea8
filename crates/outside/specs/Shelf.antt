-- A library in memory: what it holds, which of its calls fail, and what each call answers and leaves.
use Rattle.std.specs.Prelude.{◌≡◌, ◌==◌, ℕ, ◌+◌, Bool, cond, List, Option, None, Some, Result, Ok, Err, IsOk, find, take, Vec}
use Rattle.std.specs.Option.{option_map}
use Rattle.std.specs.List.{list_any}
use Rattle.std.specs.Str.{bytes_eq}
use Rattle.std.specs.declared.alloc.Global.{Global}
use Rattle.outside.specs.Faults.{one_more}
use Rattle.outside.specs.Library.{Fails, Fetched, Files, Gives, LibraryState, Tells}
use Rattle.outside.specs.declared.libraries.Fetch.{Fetch}
use Rattle.outside.specs.declared.libraries.Fetch.TheVariants.{Failed, Missing, NoMemory}

-- a shelf as contracts see it: its files by name, the numbers of the calls that fail,
-- and how many calls were made and have failed
pub record Contents : Type 0 where
  pub files : List (List ℕ × List ℕ)
  pub failing : List ℕ
  pub calls : ℕ
  pub faults : ℕ

-- a file as contracts see it: its name and its bytes
abbrev pub file_of : List ℕ × Vec ℕ Global → List ℕ × List ℕ
file_of file = (file.0, file.1.items)

-- of several files with one name the first stands
abbrev pub files_of : List (List ℕ × List ℕ) → Files
files_of files name = option_map (λ file. file.1) (find (λ file. bytes_eq file.0 name) files)

-- a shelf tells all that it holds
abbrev pub shelf_state : Contents → LibraryState
shelf_state s = record { held = Some (files_of s.files); faults = s.faults }

-- the next call is one of those that fail
abbrev pub fails : Contents → Bool
fails s = list_any (λ number. number == s.calls) s.failing

-- what a shelf is after one call
abbrev pub after_call : Contents → Contents
after_call s = record s { calls = one_more s.calls; faults = cond (fails s) (one_more s.faults) s.faults }

abbrev pub answer_of_file : Option (List ℕ) → ℕ → Result (List ℕ) Fetch
answer_of_file None most = Err Missing
answer_of_file (Some bytes) most = Ok (take (most + 1) bytes)

-- what a call answers where there is memory
abbrev pub answer : Contents → List ℕ → ℕ → Result (List ℕ) Fetch
answer s name most = cond (fails s) (Err Failed) (answer_of_file (files_of s.files name) most)

-- a call came to this where this answer is due
abbrev pub IsDue : Result (List ℕ) Fetch → Fetched → Type 0
IsDue due (Gives (Some bytes)) = due ≡ Ok bytes
IsDue due (Gives None) = due ≡ Err Missing
IsDue due Fails = due ≡ Err Failed

-- what a shelf gave is what it holds and where it was told to fail, and the call is counted
pub record ShelfGave (old new : Contents) (name : List ℕ) (most : ℕ) (fetched : Fetched) : Type 0 where
  pub tells : Tells (shelf_state old) (shelf_state new) name most fetched
  pub is_due : IsDue (answer old name most) fetched
  pub after : new ≡ after_call old

-- the answer is this one, or there was no memory for its bytes
abbrev pub Answers : Result (Vec ℕ Global) Fetch → Result (List ℕ) Fetch → Type 0
Answers (Ok bytes) due = due ≡ Ok bytes.items
Answers (Err Failed) due = due ≡ Err Failed
Answers (Err Missing) due = due ≡ Err Missing
Answers (Err NoMemory) due = IsOk due
