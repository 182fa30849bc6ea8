-- Where a connection stands between two pieces of its bytes, and which items the bytes to come then give.
use Rattle.std.specs.Prelude.{◌≡◌, ◌⊎◌, ℕ, ◌<◌, ◌≤◌, Bool, true, false, List, [], ◌∷◌, ◌++◌, length, None}
use Rattle.http_items.specs.Heads.{head_in, most_head}
use Rattle.http_items.specs.Headings.{Due, Opening, Refused, Awaits}
use Rattle.http_items.specs.Refusals.{number_of}
use Rattle.http_items.specs.Items.{Heard, Faulty, gathered, onward, items}

pub data Standing : Type 0 where
  -- these bytes of a head have come, and its end has not
  Reading : (held : List ℕ) → Standing
  -- this much of a body has come
  Gathering : (due : Due) (size : ℕ) (got : List ℕ) → Standing
  -- an item closed the connection
  Over : Standing
  -- memory was wanting
  Failed : Standing

-- where a connection stands behind an item
abbrev pub behind_item : (keep : Bool) → Standing
behind_item true = Reading []
behind_item false = Over

-- the items that further bytes give, up to the end of the stream if it has ended
abbrev pub items_from : Standing → (more : List ℕ) (ended : Bool) → List Heard
items_from (Reading held) more ended = items (held ++ more) ended
items_from (Gathering due size got) more ended = onward (gathered due size (got ++ more) ended) (λ rest. items rest ended)
items_from Over more ended = []
items_from Failed more ended = []

-- whatever comes behind the bytes: the items from the old standing are these and then those from the new one, which has yet to take the bytes left
pub record Goes (old : Standing) (bytes : List ℕ) (given : List Heard) (new : Standing) (left : List ℕ) : Type 0 where
  pub same : (more : List ℕ) (ended : Bool) → items_from old (bytes ++ more) ended ≡ given ++ items_from new (left ++ more) ended

-- the same behind a head that was found, by what it opens
abbrev pub Opens : Opening → (behind : List ℕ) (given : List Heard) (new : Standing) (left : List ℕ) → Type 0
Opens (Refused refusal head) behind given new left = (given ≡ Faulty (number_of refusal) head false ∷ []) × (new ≡ Over)
Opens (Awaits due size) behind given new left = Goes (Gathering due size []) behind given new left

-- bytes without a head, all of those that have come: more of them may come, or they are too many
abbrev pub Waits : (text : List ℕ) (given : List Heard) (new : Standing) (left : List ℕ) → Type 0
Waits text given new left =
    ((given ≡ []) × (new ≡ Reading text) × (left ≡ []) × (length text < most_head))
    ⊎ ((given ≡ Faulty 1 false false ∷ []) × (new ≡ Over) × (left ≡ []) × (most_head ≤ length text))

-- nothing is due: no head is there and one can still come, or the body is not whole
abbrev pub IsQuiet : Standing → Type 0
IsQuiet (Reading held) = (head_in held ≡ None) × (length held < most_head)
IsQuiet (Gathering due size got) = length got < size
IsQuiet Over = Unit {0}
IsQuiet Failed = Unit {0}
