-- What several writes add to the bytes that a stream tells.
use Rattle.std.proofs.Common.{◌≡◌, ℕ, List, ◌++◌, Option, length, take, drop, sym, ap, ◌∙◌, subst, append_assoc, take-append-drop}
use Rattle.std.proofs.Math.Seq.{take-append_seam}
use Rattle.std.specs.Io.KnownBytes.{Keeps, Appends}
use Rattle.std.proofs.KnownBytes.{Appends-kept}
use Rattle.outside_links.specs.Counted.{GainsPrefix}

-- what is sent with some more of the rest, and what then is left
pub sent_more : (sent rest all : List ℕ) (count : ℕ) → sent ++ rest ≡ all → (sent ++ take count rest) ++ drop count rest ≡ all
sent_more sent rest all count split =
    append_assoc sent (take count rest) (drop count rest) ∙ ap (λ bytes. sent ++ bytes) (take-append-drop count rest) ∙ split

-- what was sent so far is a front of all
pub sent_front : (old mid new : Option (List ℕ)) (sent rest all : List ℕ)
    → sent ++ rest ≡ all → Appends old mid sent → Keeps mid new → GainsPrefix old new all
sent_front old mid new sent rest all split gained kept =
    let front : sent ≡ take (length sent) all = sym (take-append_seam sent rest) ∙ ap (take (length sent)) split in
    record { count = length sent; gained = subst (Appends old new) front (Appends-kept old mid new sent gained kept) }
