-- What the end of a stream gives behind the items of its bytes (RFC 9112 sections 2.2 and 8).
use Rattle.std.specs.Prelude.{◌≡◌, ◌⊎◌, false, List, [], ◌∷◌, ◌++◌}
use Rattle.http_items.specs.declared.refusals.Refusal.TheVariants.{BadHead, CutBody}
use Rattle.http_items.specs.Refusals.{number_of}
use Rattle.http_items.specs.Items.{Heard, Asked, Faulty}

-- the refusal of a head or of a body that the end cuts; it closes the connection
abbrev pub IsCut : Heard → Type 0
IsCut (Asked method path keep body) = ⊥
IsCut (Faulty number head keep) = ((number ≡ number_of BadHead) ⊎ (number ≡ number_of CutBody)) × (keep ≡ false)

-- at most one item, and such a refusal
abbrev pub IsEnding : List Heard → Type 0
IsEnding [] = Unit {0}
IsEnding (item ∷ []) = IsCut item
IsEnding (item ∷ other ∷ items) = ⊥

-- the items of a stream that has ended are those that its bytes gave before, and what the end gives
pub record EndsAfter (begun ended : List Heard) : Type 0 where
  pub last : List Heard
  pub behind : ended ≡ begun ++ last
  pub ending : IsEnding last
