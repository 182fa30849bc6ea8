-- In which calls an ending is handed to the outputs.
use Rattle.std.specs.Prelude.{◌≡◌, ◌⊎◌, ℕ, Bool, List}
use Rattle.commands.specs.Endings.{Ended, note_of, status_of, text_of}
use Rattle.commands.specs.Pieces.{CutOff, HandedBoth}
use Rattle.commands.specs.declared.status.Status.{Status}
use Rattle.commands.specs.declared.status.Status.TheVariants as status

-- what is due for this ending was handed over, or a call of an output failed
abbrev pub HandsOver
    : {S N : Type 0} → (took : S → S → List ℕ → Bool → Type 0) (noted : N → N → List ℕ → Bool → Type 0) → (e : Ended) (result : Status) → (out out' : S) (notes notes' : N) → Type 0
HandsOver took noted e result out out' notes notes' =
    ((result ≡ status_of e) × HandedBoth took noted (text_of e) (note_of e) out out' notes notes')
    ⊎ ((result ≡ status.WriteFault) × CutOff took noted (text_of e) (note_of e) out out' notes notes')
