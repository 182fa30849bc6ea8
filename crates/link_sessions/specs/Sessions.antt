-- What a session does over its link.
use Rattle.std.specs.Prelude.{◌≡◌, ◌⊎◌, ℕ, Bool, true, false, List, [], ◌∷◌, ◌++◌}
use Rattle.http_items.specs.Items.{Heard, items, keeps}
use Rattle.tenant_meters.specs.Metered.{PassView}
use Rattle.tenant_meters.specs.declared.callers.Call.{Call}
use Rattle.link_sessions.specs.Calling.{mine_in}
use Rattle.link_sessions.specs.Services.{Service}
use Rattle.link_sessions.specs.Serving.{Begins, Doing, Replies}

-- the last of the items closes the connection
pub record LastCloses (items : List Heard) : Type 0 where
  pub before : List Heard
  pub last : Heard
  pub split : items ≡ before ++ last ∷ []
  pub closes : keeps last ≡ false

-- what calls of a link took in and sent, by what the link shows of them
abbrev pub Exchanging : Type 1
Exchanging = (read sent : List ℕ) → Type 0

-- bytes were read and others sent, and the visit's own calls of the tenant's meter grew by some; of the items of what was read, P holds of the calls and of what was sent
pub record Served (P : List Heard → Doing) (exchanged : Exchanging) (ended : Bool) (tenant : ℕ) (old new : List PassView) : Type 0 where
  pub read : List ℕ
  pub sent : List ℕ
  pub exchange : exchanged read sent
  pub calls : List Call
  pub mine : mine_in new tenant ≡ mine_in old tenant ++ calls
  pub does : P (items read ended) calls sent

-- what was sent is a beginning of the replies to what was read
abbrev pub HasServed : Service → Exchanging → (ended : Bool) → (tenant : ℕ) → (old new : List PassView) → Type 0
HasServed s exchanged ended tenant old new = Served (Begins s) exchanged ended tenant old new

-- it is all of them, and no reply is due any more: the input has ended, or the last reply closes the connection
abbrev pub HasServedAll : Service → Exchanging → (ended : Bool) → (tenant : ℕ) → (old new : List PassView) → Type 0
HasServedAll s exchanged ended tenant old new =
    Served (λ heard calls sent. Replies s heard calls sent × ((ended ≡ true) ⊎ LastCloses heard)) exchanged ended tenant old new
