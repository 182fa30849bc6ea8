-- What the parts of a session do: calls of the meter, and bytes over the link, one thing after another.
use Rattle.std.specs.Prelude.{◌≡◌, ◌≢◌, ◌⊎◌, ◌≤◌, ◌<◌, ℕ, Bool, true, false, List, [], ◌∷◌, ◌++◌, length}
use Rattle.http_items.specs.Items.{Heard, items, keeps}
use Rattle.http_items.specs.Standings.{Goes, Reading, Standing}
use Rattle.outside.specs.Faults.{Rose}
use Rattle.outside_links.specs.Link.{LinkState}
use Rattle.tenant_meters.specs.Metered.{PassView}
use Rattle.tenant_meters.specs.declared.callers.Call.{Call}
use Rattle.tenant_meters.specs.declared.callers.Terms.{Terms}
use Rattle.link_sessions.specs.Calling.{MakesCalls}
use Rattle.link_sessions.specs.Services.{Service}
use Rattle.link_sessions.specs.Serving.{Begins, Doing, Replies}
use Rattle.link_sessions.specs.Sessions.{LastCloses}
use Rattle.link_sessions.specs.declared.sessions.Ended.{Ended}
use Rattle.link_sessions.specs.declared.sessions.Ended.TheVariants.{Done, LinkFault, NoMemory}

-- why a session stops before its end
abbrev pub StopCause : Ended → (old new : LinkState) → Type 0
StopCause Done old new = ⊥
StopCause LinkFault old new = Rose old.faults new.faults × (new.used ≡ true)
StopCause NoMemory old new = Unit {0}

-- where the connection is not kept, the last of the items closes it
abbrev pub IsKept : (keep : Bool) → List Heard → Type 0
IsKept keep items = keep ≡ false → LastCloses items

-- the link has neither ended nor been freed of its mark; it is marked where a byte was sent
pub record Marks (old new : LinkState) (sent : List ℕ) : Type 0 where
  pub ended : new.ended ≡ old.ended
  pub kept : old.used ≡ true → new.used ≡ true
  pub marks : 0 < length sent → new.used ≡ true

module _ (given : Terms) (tenant : ℕ) where
  -- the meter was asked, and P holds of that and of a text
  pub record Asks (P : Doing) (text : List ℕ) (old new : List PassView) : Type 0 where
    pub calls : List Call
    pub called : MakesCalls given tenant old new calls
    pub does : P calls text

module _ {L : Type 0} (state : L → LinkState) (exchanged : L → L → List ℕ → List ℕ → Type 0) (given : Terms) (tenant : ℕ) where
  -- the meter was asked, bytes were sent and none read, and P holds of that
  pub record Does (P : Doing) (old new : L) (passes passes' : List PassView) : Type 0 where
    pub calls : List Call
    pub called : MakesCalls given tenant passes passes' calls
    pub sent : List ℕ
    pub exchange : exchanged old new [] sent
    pub does : P calls sent
    pub marks : Marks (state old) (state new) sent

  -- a whole session
  pub record Serves (s : Service) (result : Ended) (old new : L) (passes passes' : List PassView) : Type 0 where
    pub read : List ℕ
    pub sent : List ℕ
    pub exchange : exchanged old new read sent
    pub calls : List Call
    pub called : MakesCalls given tenant passes passes' calls
    pub begins : Begins s (items read (state new).ended) calls sent
    pub done : result ≡ Done → Replies s (items read (state new).ended) calls sent × (((state new).ended ≡ true) ⊎ LastCloses (items read (state new).ended))
    pub fault : result ≡ LinkFault → Rose (state old).faults (state new).faults
    pub used : result ≢ NoMemory → (state new).used ≡ true

  -- a session between two reads: it has replied to all items that the bytes so far give
  pub record Going (s : Service) (old now : L) (passes passes' : List PassView) (front : Standing) : Type 0 where
    pub read : List ℕ
    pub sent : List ℕ
    pub exchange : exchanged old now read sent
    pub heard : List Heard
    pub goes : Goes (Reading []) read heard front []
    pub calls : List Call
    pub called : MakesCalls given tenant passes passes' calls
    pub replies : Replies s heard calls sent
    pub ended : (state now).ended ≡ false
    pub later : (state old).faults ≤ (state now).faults
