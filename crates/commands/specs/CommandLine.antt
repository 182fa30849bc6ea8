-- The shapes of a command line: which words ask for which command.
use Rattle.std.specs.Prelude.{ℕ, ◌≤◌, ◌^◌, nat_le, nat_lt, ◌-◌, ◌&&◌, Bool, if◌then◌else◌, List, [], ◌∷◌, length, codes, Option, None, Some}
use Rattle.std.specs.List.{list_all}
use Rattle.std.specs.Option.{option_map}
use Rattle.std.specs.Str.{bytes_eq}
use Rattle.std.specs.Char.{is_ascii_digit}
use Rattle.std.specs.Str.Parse.{digits_value}
use Rattle.commands.specs.declared.command.Command.{Command}
use Rattle.commands.specs.declared.command.Command.TheVariants as command
use Rattle.commands.specs.declared.command.Invoke.{Invoke}
use Rattle.commands.specs.declared.command.Replay.{Replay}
use Rattle.commands.specs.declared.command.Soak.{Soak}

-- the words of an `invoke`: two names of files, and the fuel limit
pub record InvokeWords : Type 0 where
  pub module_name : List ℕ
  pub body_name : List ℕ
  pub budget : ℕ

-- the words of a `replay`: two names of files
pub record ReplayWords : Type 0 where
  pub config_name : List ℕ
  pub recording_name : List ℕ

-- the words of a `soak`: where the generator starts, and how many requests there are
pub record SoakWords : Type 0 where
  pub start : ℕ
  pub count : ℕ

-- what the words of a command line ask for
pub data Asked : Type 0 where
  AsksHelp : Asked
  AsksVersion : Asked
  AsksInvoke : (words : InvokeWords) → Asked
  AsksCheck : (config_name : List ℕ) → Asked
  AsksReplay : (words : ReplayWords) → Asked
  AsksSoak : (words : SoakWords) → Asked

-- one to twenty decimal digits
abbrev pub is_decimal : List ℕ → Bool
is_decimal digits = nat_lt 0 (length digits) && nat_le (length digits) 20 && list_all is_ascii_digit digits

-- a value in this range, the ends among it
abbrev pub within : (least most value : ℕ) → Option ℕ
within least most value = if nat_lt value least then None else (if nat_lt most value then None else Some value)

-- a number among the words: one to twenty decimal digits, of a value in this range
abbrev pub number_within : (least most : ℕ) → List ℕ → Option ℕ
number_within least most digits = if is_decimal digits then within least most (digits_value 10 digits) else None

-- a start below 2^64, and 1 to 4,096 requests
abbrev pub soak_asked : (start count : Option ℕ) → Option Asked
soak_asked None count = None
soak_asked (Some start) None = None
soak_asked (Some start) (Some count) = Some (AsksSoak (record { start = start; count = count }))

abbrev pub soak_words : List ℕ → List ℕ → Option Asked
soak_words start count = soak_asked (number_within 0 (2 ^ 64 - 1) start) (number_within 1 4096 count)

-- the commands of one word
abbrev pub lone_word : List ℕ → Option Asked
lone_word word =
    if bytes_eq word (codes "--help") then Some AsksHelp
    else (if bytes_eq word (codes "--version") then Some AsksVersion else None)

-- the commands of two words
abbrev pub two_words : List ℕ → List ℕ → Option Asked
two_words word name = if bytes_eq word (codes "check") then Some (AsksCheck name) else None

-- the commands of three words
abbrev pub three_words : List ℕ → List ℕ → List ℕ → Option Asked
three_words word first second =
    if bytes_eq word (codes "replay") then Some (AsksReplay (record { config_name = first; recording_name = second }))
    else (if bytes_eq word (codes "soak") then soak_words first second else None)

-- the commands of four words
abbrev pub four_words : List ℕ → List ℕ → List ℕ → List ℕ → Option Asked
four_words word name body digits =
    if bytes_eq word (codes "invoke")
    then option_map (λ budget. AsksInvoke (record { module_name = name; body_name = body; budget = budget })) (number_within 0 (2 ^ 40) digits)
    else None

-- what these words ask for, or none where they have none of the shapes
abbrev pub command_of : List (List ℕ) → Option Asked
command_of (word ∷ []) = lone_word word
command_of (word ∷ name ∷ []) = two_words word name
command_of (word ∷ first ∷ second ∷ []) = three_words word first second
command_of (word ∷ name ∷ body ∷ digits ∷ []) = four_words word name body digits
command_of _ = None

-- the words of an `invoke` seen from the code, where a name is a text behind a reference
abbrev pub invoke_view : Invoke → InvokeWords
invoke_view i = record { module_name = i.module_name.now; body_name = i.body_name.now; budget = i.budget }

abbrev pub replay_view : Replay → ReplayWords
replay_view r = record { config_name = r.config_name.now; recording_name = r.recording_name.now }

abbrev pub soak_view : Soak → SoakWords
soak_view s = record { start = s.start; count = s.count }

-- the same of each command
abbrev pub command_view : Command → Asked
command_view command.Help = AsksHelp
command_view command.Version = AsksVersion
command_view (command.Invoke i) = AsksInvoke (invoke_view i)
command_view (command.Check name) = AsksCheck name.now
command_view (command.Replay r) = AsksReplay (replay_view r)
command_view (command.Soak s) = AsksSoak (soak_view s)

-- an `invoke` has a budget of at most 2^40, and a `soak` 1 to 4,096 requests
abbrev pub IsWithin : Command → Type 0
IsWithin command.Help = Unit {0}
IsWithin command.Version = Unit {0}
IsWithin (command.Invoke i) = i.budget ≤ 2 ^ 40
IsWithin (command.Check name) = Unit {0}
IsWithin (command.Replay r) = Unit {0}
IsWithin (command.Soak s) = (1 ≤ s.count) × (s.count ≤ 4096)
