-- Which refusal comes first of what stands at the front of the bytes ahead: what is looked at, in order.
-- Kind, moment, link and number lie at fixed places there. A place behind the last byte reads as 0, and is looked at only where an earlier look has not found the bytes cut.
use Rattle.std.specs.Prelude.{ℕ, ◌+◌, Bool, not, ◌&&◌, List, [], ◌∷◌, length, drop, take, slice_index, Option, Some, None, nat_lt, nat_le, ◌==◌, if◌then◌else◌}
use Rattle.std.specs.Int.{w32, from_le_bytes}
use Rattle.recording_format.specs.declared.records.Event.{Event}
use Rattle.recording_format.specs.declared.records.Event.TheVariants.{Begins, Arrives, Closes}
use Rattle.recording_format.specs.declared.records.Record.{Record}
use Rattle.recording_format.specs.declared.refusals.Refusal.{Refusal}
use Rattle.recording_format.specs.declared.refusals.Refusal.TheVariants.{CutShort, UnknownKind, MomentFell, LinkOrder, UnknownTenant, TooLarge, RestAfterEnd}
use Rattle.recording_format.specs.Standing.{Standing}
use Rattle.recording_format.specs.Following.{most_connections, is_open}

abbrev pub kind_ahead : List ℕ → ℕ
kind_ahead ahead = slice_index ahead 0

abbrev pub moment_ahead : List ℕ → ℕ
moment_ahead ahead = from_le_bytes w32 (drop 1 ahead)

abbrev pub link_ahead : List ℕ → ℕ
link_ahead ahead = from_le_bytes w32 (drop 5 ahead)

-- the tenant of a beginning, or the length of a piece
abbrev pub number_ahead : List ℕ → ℕ
number_ahead ahead = from_le_bytes w32 (drop 9 ahead)

-- kind, moment and link
abbrev pub head_size : ℕ
head_size = 9

-- how many bytes a record of this kind has behind them
abbrev pub contents_size : (kind number : ℕ) → ℕ
contents_size kind number = if kind == 1 then 4 else if kind == 2 then 4 + number else 0

abbrev pub size_ahead : List ℕ → ℕ
size_ahead ahead = head_size + contents_size (kind_ahead ahead) (number_ahead ahead)

abbrev pub event_ahead : List ℕ → Event
event_ahead ahead =
    if kind_ahead ahead == 1 then Begins (number_ahead ahead)
    else if kind_ahead ahead == 2 then Arrives (take (number_ahead ahead) (drop 13 ahead)) else Closes

abbrev pub record_ahead : List ℕ → Record
record_ahead ahead = record { moment = moment_ahead ahead; link = link_ahead ahead; event = event_ahead ahead }

-- a beginning is on the next link, and all else on one that is open
abbrev pub is_in_order : (links : List Bool) (kind link : ℕ) → Bool
is_in_order links kind link = if kind == 1 then link == length links else is_open links link

-- a look: whether it finds a fault, and which one it is
abbrev pub Look : Type 0
Look = Bool × Refusal

-- the fault of the first look that finds one
abbrev pub first_of : List Look → Option Refusal
first_of [] = None
first_of (look ∷ looks) = if look.0 then Some look.1 else first_of looks

-- where a record stands, its parts in order
abbrev pub looks_at_record : (tenants : ℕ) → Standing → List ℕ → List Look
looks_at_record tenants standing ahead =
    (nat_lt (length ahead) head_size, CutShort)
    ∷ (nat_lt (moment_ahead ahead) standing.last, MomentFell)
    ∷ (not (is_in_order standing.links (kind_ahead ahead) (link_ahead ahead)), LinkOrder)
    ∷ (nat_lt (length ahead) (size_ahead ahead), CutShort)
    ∷ (nat_le most_connections (link_ahead ahead), TooLarge)
    ∷ (kind_ahead ahead == 1 && nat_le tenants (number_ahead ahead), UnknownTenant)
    ∷ []

-- where the end stands, nothing may stand behind it
abbrev pub looks_at_end : List ℕ → List Look
looks_at_end ahead = (nat_lt 1 (length ahead), RestAfterEnd) ∷ []

abbrev pub looks : (tenants : ℕ) → Standing → List ℕ → List Look
looks tenants standing ahead =
    (length ahead == 0, CutShort)
    ∷ (nat_lt 3 (kind_ahead ahead), UnknownKind)
    ∷ (if kind_ahead ahead == 0 then looks_at_end ahead else looks_at_record tenants standing ahead)

-- why what stands ahead is refused, if it is
abbrev pub refusal_ahead : (tenants : ℕ) → Standing → List ℕ → Option Refusal
refusal_ahead tenants standing ahead = first_of (looks tenants standing ahead)
