-- Bytes that are handed to a sink in parts are handed to it whole.
use Rattle.std.proofs.Common.{◌≡◌, ℕ, ◌+◌, List, [], ◌++◌, Option, None, Some, length, refl, sym, ap, ◌∙◌, append_assoc, append-nil}
use Rattle.std.proofs.Math.Seq.{take-append-add}
use Rattle.std.specs.Io.KnownBytes.{append_known}
use Rattle.outside.specs.Sink.{Appends, SinkState, TakesPrefix}

append_known-append : (known : Option (List ℕ)) (front rest : List ℕ) →
    append_known (append_known known front) rest ≡ append_known known (front ++ rest)
append_known-append None front rest = refl
append_known-append (Some bytes) front rest = ap Some (append_assoc bytes front rest)

-- one part after another
pub Appends-append : {old mid new : SinkState} {front rest : List ℕ} →
    Appends old mid front → Appends mid new rest → Appends old new (front ++ rest)
Appends-append {old} {mid} {new} {front} {rest} first second = record {
  appended = second.appended ∙ ap (λ known. append_known known rest) first.appended ∙ append_known-append old.written front rest;
}

Appends-same : {old new : SinkState} {bytes all : List ℕ} → all ≡ bytes → Appends old new bytes → Appends old new all
Appends-same {old} {new} e taken = record { appended = taken.appended ∙ ap (append_known old.written) (sym e) }

-- a part, and then a prefix of the next
pub TakesPrefix-append : {old mid new : SinkState} {front rest : List ℕ} →
    Appends old mid front → TakesPrefix mid new rest → TakesPrefix old new (front ++ rest)
TakesPrefix-append {front} {rest} first second = record {
  count = length front + second.count;
  taken = Appends-same (take-append-add front rest second.count) (Appends-append first second.taken);
}

append_known-nil : (known : Option (List ℕ)) → known ≡ append_known known []
append_known-nil None = refl
append_known-nil (Some bytes) = ap Some (sym (append-nil bytes))

-- no bytes leave a sink as it is
pub Appends-nil : (state : SinkState) → Appends state state []
Appends-nil state = record { appended = append_known-nil state.written }
