-- The items of one connection's bytes: its requests and its refusals, over the whole list of bytes (RFC 9112 sections 2.2, 6 and 9).
use Rattle.std.specs.Prelude.{◌≡◌, ◌≤◌, ℕ, zero, suc, Bool, true, false, ◌&&◌, List, [], ◌∷◌, ◌++◌, length, take, drop, Option, Some, None, if◌then◌else◌, ◌==◌, nat_le}
use Rattle.httparse.specs.Ascii.{line_feed, carriage_return}
use Rattle.httparse.specs.Grammar.{RequestHead}
use Rattle.http_items.specs.declared.methods.Method.{Method}
use Rattle.http_items.specs.declared.refusals.Refusal.TheVariants.{BadHead, CutBody}
use Rattle.http_items.specs.Refusals.{number_of}
use Rattle.http_items.specs.Heads.{head_in, most_head}
use Rattle.http_items.specs.Headings.{heading_of, Due, Serve, Refuse, due_to_head, Opening, Refused, Awaits, opening_of, most_body}

-- a request, or the number of a refusal
pub data Heard : Type 0 where
  Asked : (method : Method) (path : List ℕ) (keep : Bool) (body : List ℕ) → Heard
  Faulty : (number : ℕ) (head keep : Bool) → Heard

-- the connection is kept after the item
abbrev pub keeps : Heard → Bool
keeps (Asked method path keep body) = keep
keeps (Faulty number head keep) = keep

-- what was due, with the body
abbrev pub heard : Due → (body : List ℕ) → Heard
heard (Serve method path keep) body = Asked method path keep body
heard (Refuse refusal head keep) body = Faulty (number_of refusal) head keep

-- the item that bytes begin with, and the bytes behind it; nothing, where there is none or more bytes are needed
pub data Front : Type 0 where
  Nothing : Front
  Gives : (item : Heard) (rest : List ℕ) → Front

-- the bytes are pairs of a carriage return and a line feed
abbrev pub are_pairs : List ℕ → Bool
are_pairs [] = true
are_pairs (a ∷ []) = false
are_pairs (a ∷ b ∷ text) = (a == carriage_return) && ((b == line_feed) && are_pairs text)

-- bytes that begin with no head: empty lines before the end of the stream are nothing; no head can come any more; or one still can
abbrev pub no_head : (text : List ℕ) (ended : Bool) → Front
no_head text ended =
    if nat_le most_head (length text) then Gives (Faulty (number_of BadHead) false false) [] else (
    if ended then (if are_pairs text then Nothing else Gives (Faulty (number_of BadHead) false false) []) else
    Nothing)

-- the body, and then what is due
abbrev pub gathered : Due → (size : ℕ) (text : List ℕ) (ended : Bool) → Front
gathered due size text ended =
    if nat_le size (length text) then Gives (heard due (take size text)) (drop size text) else (
    if ended then Gives (Faulty (number_of CutBody) (due_to_head due) false) [] else
    Nothing)

abbrev pub opened : Opening → (text : List ℕ) (ended : Bool) → Front
opened (Refused refusal head) text ended = Gives (Faulty (number_of refusal) head false) []
opened (Awaits due size) text ended = gathered due size text ended

abbrev pub front_with : (text : List ℕ) → Option (RequestHead × List ℕ) → (ended : Bool) → Front
front_with text None ended = no_head text ended
front_with text (Some x) ended = opened (opening_of (heading_of x.0)) x.1 ended

abbrev pub front : (text : List ℕ) (ended : Bool) → Front
front text ended = front_with text (head_in text) ended

-- the item, and those behind it unless it closes the connection
abbrev pub onward : Front → (again : List ℕ → List Heard) → List Heard
onward Nothing again = []
onward (Gives item rest) again = item ∷ (if keeps item then again rest else [])

-- at most this many items
unfoldable pub items_upto : (most : ℕ) (text : List ℕ) (ended : Bool) → List Heard
items_upto zero text ended = []
items_upto (suc most) text ended = onward (front text ended) (λ rest. items_upto most rest ended)

-- the items of a connection's bytes so far, or of all of them once the stream has ended; each has at least a byte
unfoldable pub items : (text : List ℕ) (ended : Bool) → List Heard
items text ended = items_upto (length text) text ended

-- the first items of a stream
abbrev pub BeginsWith : (all first : List Heard) → Type 0
BeginsWith all first = (left : List Heard) × (all ≡ first ++ left)

-- a body within the limit, or the number of a refusal that the bytes of a connection alone have: no route and no meter is asked for it
abbrev pub IsWithin : Heard → Type 0
IsWithin (Asked method path keep body) = length body ≤ most_body
IsWithin (Faulty number head keep) = (1 ≤ number) × (number ≤ 8)
