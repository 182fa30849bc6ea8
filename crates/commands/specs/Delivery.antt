-- What a delivery of a text and a note leaves on the two outputs: all of both, or a prefix.
use Rattle.std.specs.Prelude.{◌≡◌, ◌⊎◌, ℕ, List}
use Rattle.outside.specs.Faults.{Rose}
use Rattle.outside.specs.Sink.{Appends, SinkState, TakesPrefix}
use Rattle.commands.specs.Endings.{Ended, note_of, status_of, text_of}
use Rattle.commands.specs.declared.status.Status.{Status}
use Rattle.commands.specs.declared.status.Status.TheVariants as status

-- one output has taken all of the text, and the other all of the note
pub record Wrote (text note : List ℕ) (out out' notes notes' : SinkState) : Type 0 where
  pub out_took : Appends out out' text
  pub notes_took : Appends notes notes' note

-- a write to the first output failed: it has a prefix of the text, and the second was left alone
pub record TextBroke (text : List ℕ) (out out' notes notes' : SinkState) : Type 0 where
  pub out_took : TakesPrefix out out' text
  pub out_rose : Rose out.faults out'.faults
  pub notes_kept : notes' ≡ notes

-- a write to the second output failed: the text is written, and of the note a prefix
pub record NoteBroke (text note : List ℕ) (out out' notes notes' : SinkState) : Type 0 where
  pub out_took : Appends out out' text
  pub notes_took : TakesPrefix notes notes' note
  pub notes_rose : Rose notes.faults notes'.faults

-- a write failed, at the text or at the note behind it
abbrev pub WroteInPart : (text note : List ℕ) (out out' notes notes' : SinkState) → Type 0
WroteInPart text note out out' notes notes' =
    TextBroke text out out' notes notes' ⊎ NoteBroke text note out out' notes notes'

-- the outputs took just what the ending has for them
abbrev pub Took : Ended → (out out' notes notes' : SinkState) → Type 0
Took e out out' notes notes' = Wrote (text_of e) (note_of e) out out' notes notes'

-- a command that ends so leaves the status and the outputs like this: the status is the ending's and all
-- that is due was written, or a write failed and a part of it was
abbrev pub Leaves : (e : Ended) (result : Status) (out out' notes notes' : SinkState) → Type 0
Leaves e result out out' notes notes' =
    ((result ≡ status_of e) × Took e out out' notes notes')
    ⊎ ((result ≡ status.WriteFault) × WroteInPart (text_of e) (note_of e) out out' notes notes')
