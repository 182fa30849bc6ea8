-- How a command ends: its status, what is due on the output, and what is due on the notes.
use Rattle.std.specs.Prelude.{ℕ, ◌<◌, ◌^◌, false, true, List, [], ◌++◌, length, codes, decimal}
use Rattle.http_front.specs.Reported.{Reported}
use Rattle.http_front.specs.Reply.{reply_of}
use Rattle.commands.specs.Texts.{line, octet_stream}
use Rattle.commands.specs.declared.status.Status.{Status}
use Rattle.commands.specs.declared.status.Status.TheVariants as status

-- an ending: the command is done, with a text and a note; or it is refused, with a status and a line of these words
pub data Ended : Type 0 where
  Done : (text note : List ℕ) → Ended
  Refuses : (status : Status) (words : List ℕ) → Ended

abbrev pub status_of : Ended → Status
status_of (Done text note) = status.Ok
status_of (Refuses s words) = s

-- what is due on the output: nothing for a refusal
abbrev pub text_of : Ended → List ℕ
text_of (Done text note) = text
text_of (Refuses s words) = []

-- what is due on the notes: one line for a refusal
abbrev pub note_of : Ended → List ℕ
note_of (Done text note) = note
note_of (Refuses s words) = line words

-- an ending as it is carried out
pub record Due : Type 0 where
  pub status : Status
  pub text : List ℕ
  pub note : List ℕ

abbrev pub due : Ended → Due
due e = record { status = status_of e; text = text_of e; note = note_of e }

-- what is due on the output is so short that 32 bits can tell how long it is
abbrev pub IsBrief : Due → Type 0
IsBrief planned = length planned.text < 2 ^ 32

-- the words have none of the shapes
abbrev pub usage : Ended
usage = Refuses status.Usage (codes "usage")

-- the file of this name cannot be read
abbrev pub not_read : (name : List ℕ) → Ended
not_read name = Refuses status.ReadFault (codes "read " ++ name)

-- the configuration is refused
abbrev pub config_fault : (number : ℕ) → Ended
config_fault number = Refuses (status.ConfigFault number) (codes "config " ++ decimal number)

-- the module of this route is refused
abbrev pub module_fault : (route number place : ℕ) → Ended
module_fault route number place =
    Refuses (status.ModuleFault route number place)
    (codes "module " ++ decimal number ++ codes " " ++ decimal route ++ codes " " ++ decimal place)

-- the recording, or the body of an `invoke`, is refused
abbrev pub recording_fault : (number : ℕ) → Ended
recording_fault number = Refuses (status.RecordingFault number) (codes "recording " ++ decimal number)

abbrev pub out_of_memory : Ended
out_of_memory = Refuses status.NoMemory (codes "memory")

-- a text is shown, with nothing for the notes
abbrev pub shown : (text : List ℕ) → Ended
shown text = Done text []

-- the reply to a kept GET, with what it reports, and the units that the run cost
abbrev pub answered : Reported → (units : ℕ) → Ended
answered reported units =
    Done (reply_of reported octet_stream false true) (line (codes "units " ++ decimal units))
