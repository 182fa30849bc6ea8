-- The replies to the items of a connection in order, and the calls of the tenant's meter beside them.
use Rattle.std.specs.Prelude.{◌≡◌, ◌⊎◌, ℕ, List, [], ◌∷◌, ◌++◌, take, Option, None, Some}
use Rattle.http_items.specs.Items.{Heard}
use Rattle.tenant_meters.specs.declared.callers.Call.{Call}
use Rattle.link_sessions.specs.Services.{Service, IsCallFor, answered_text, refused_text, route_of}

-- what is done for some items: calls of the meter, and bytes that are sent
abbrev pub Doing : Type 1
Doing = List Call → List ℕ → Type 0

-- all of a text was sent, and then what is behind it
pub record Whole (text : List ℕ) (behind : Doing) (calls : List Call) (sent : List ℕ) : Type 0 where
  pub rest : List ℕ
  pub split : sent ≡ text ++ rest
  pub next : behind calls rest

-- a part of a text was sent, from its first byte on, and nothing was done for what is behind it
pub record Part (text : List ℕ) (calls : List Call) (sent : List ℕ) : Type 0 where
  pub count : ℕ
  pub front : sent ≡ take count text
  pub last : calls ≡ []

-- Each item is replied to, in order, with one call for each that has a route and no others.

abbrev pub RepliesBy : Service → Heard → (route : Option ℕ) → (behind : Doing) → Doing
RepliesBy s item None behind calls sent = Whole (refused_text item) behind calls sent
RepliesBy s item (Some route) behind [] sent = ⊥
RepliesBy s item (Some route) behind (c ∷ calls) sent = IsCallFor s route c × Whole (answered_text s route item c.answer) behind calls sent

abbrev pub Replies : Service → List Heard → Doing
Replies s [] calls sent = (calls ≡ []) × (sent ≡ [])
Replies s (item ∷ items) calls sent = RepliesBy s item (route_of s item) (Replies s items) calls sent

-- The same up to some byte: what was sent is a beginning of the replies. There is one call for each item with a route of whose reply a byte was sent, and at most one more.

abbrev pub BeginsBy : Service → Heard → (route : Option ℕ) → (behind : Doing) → Doing
BeginsBy s item None behind calls sent = Part (refused_text item) calls sent ⊎ Whole (refused_text item) behind calls sent
BeginsBy s item (Some route) behind [] sent = sent ≡ []
BeginsBy s item (Some route) behind (c ∷ calls) sent =
    IsCallFor s route c
    × (Part (answered_text s route item c.answer) calls sent ⊎ Whole (answered_text s route item c.answer) behind calls sent)

abbrev pub Begins : Service → List Heard → Doing
Begins s [] calls sent = (calls ≡ []) × (sent ≡ [])
Begins s (item ∷ items) calls sent = BeginsBy s item (route_of s item) (Begins s items) calls sent
