-- What calls exchanged, one behind another, is what they exchanged together.
use Rattle.std.proofs.Common.{◌≡◌, ℕ, List, [], ◌++◌, Option, None, Some, refl, sym, ap, ◌∙◌, append_assoc, append-nil}
use Rattle.std.specs.Io.KnownBytes.{append_known, prepend_known}
use Rattle.outside_links.specs.Counted.{Streaming, untold_link}
use Rattle.outside_links.specs.Link.{Exchanges, LinkState}

prepend_known-append : (front rest : List ℕ) (known : Option (List ℕ)) → prepend_known front (prepend_known rest known) ≡ prepend_known (front ++ rest) known
prepend_known-append front rest None = refl
prepend_known-append front rest (Some bytes) = ap Some (sym (append_assoc front rest bytes))

append_known-append : (known : Option (List ℕ)) (front rest : List ℕ) → append_known (append_known known front) rest ≡ append_known known (front ++ rest)
append_known-append None front rest = refl
append_known-append (Some bytes) front rest = ap Some (append_assoc bytes front rest)

append_known-nil : (known : Option (List ℕ)) → known ≡ append_known known []
append_known-nil None = refl
append_known-nil (Some bytes) = ap Some (sym (append-nil bytes))

prepend_known-nil : (known : Option (List ℕ)) → known ≡ prepend_known [] known
prepend_known-nil None = refl
prepend_known-nil (Some bytes) = refl

-- no call
pub Exchanges-none : (state : LinkState) → Exchanges state state [] []
Exchanges-none state = record { left = prepend_known-nil state.left; written = append_known-nil state.written }

-- one behind another
pub Exchanges-behind : (old mid new : LinkState) (read read' sent sent' : List ℕ) → Exchanges old mid read sent → Exchanges mid new read' sent' → Exchanges old new (read ++ read') (sent ++ sent')
Exchanges-behind old mid new read read' sent sent' first second = record {
  left = first.left ∙ ap (prepend_known read) second.left ∙ prepend_known-append read read' new.left;
  written = second.written ∙ ap (λ known. append_known known sent') first.written ∙ append_known-append old.written sent sent';
}

-- what a link exchanged that tells no bytes
pub Exchanges-untold : {S : Type 0} (old new : Streaming S) (read sent : List ℕ) → Exchanges (untold_link old) (untold_link new) read sent
Exchanges-untold old new read sent = record { left = refl; written = refl }
