-- What several writes add to the bytes that a stream tells.
use Rattle.std.proofs.Common.{◌≡◌, ℕ, List, ◌++◌, Option, None, Some, Result, Ok, Err, OnErr, length, take, drop, sym, ap, ◌∙◌, subst, append_assoc, append-nil, take-append-drop}
use Rattle.std.proofs.Math.Seq.{take-append_seam}
use Rattle.std.specs.Io.KnownBytes.{Keeps, Appends as Gains}
use Rattle.std.proofs.KnownBytes.{Appends-kept}
use Rattle.outside.specs.Counted.{GainsPrefix}

-- a stream that kept its bytes gained none
pub Gains-none : (old new : Option (List ℕ)) (bytes : List ℕ) → Keeps old new → Gains old new (take 0 bytes)
Gains-none None new bytes kept = tt
Gains-none (Some told) None bytes kept = absurd kept
Gains-none (Some told) (Some now) bytes kept = kept ∙ sym (append-nil told)

-- what is done with some more of the rest, and what then is left
pub more_done : (done rest all : List ℕ) (count : ℕ) → done ++ rest ≡ all → (done ++ take count rest) ++ drop count rest ≡ all
more_done done rest all count split =
    append_assoc done (take count rest) (drop count rest) ∙ ap (λ bytes. done ++ bytes) (take-append-drop count rest) ∙ split

-- what holds anyhow holds on a failure
pub OnErr-anyhow : {T E P : Type 0} (result : Result T E) → P → OnErr result P
OnErr-anyhow (Ok x) p = tt
OnErr-anyhow (Err e) p = p

-- what was done so far is a prefix of all
pub GainsPrefix-done : (old mid new : Option (List ℕ)) (done rest all : List ℕ) →
    done ++ rest ≡ all → Gains old mid done → Keeps mid new → GainsPrefix old new all
GainsPrefix-done old mid new done rest all split gained kept =
    let front : done ≡ take (length done) all = sym (take-append_seam done rest) ∙ ap (take (length done)) split in
    record { count = length done; gained = subst (Gains old new) front (Appends-kept old mid new done gained kept) }
