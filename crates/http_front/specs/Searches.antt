-- What a search for a head answers.
use Rattle.std.specs.Prelude.{◌≡◌, ℕ, List, Option, None, Some}
use Rattle.http_items.specs.Heads.{head_in}
use Rattle.http_front.specs.declared.headings.Opening.{Opening}
use Rattle.http_front.specs.declared.heads.Search.{Search}
use Rattle.http_front.specs.declared.heads.Search.TheVariants as search
use Rattle.http_front.specs.Views.{opening_seen, opened_in}

-- what a head opens, and its length; or none is there
abbrev pub Parses : (text : List ℕ) → Option (Opening × ℕ) → Type 0
Parses text None = head_in text ≡ None
Parses text (Some x) = opened_in text ≡ Some (opening_seen x.0, x.1)

-- the head in front of the bytes was found; or none is there, and they are kept
abbrev pub Finds : (text : List ℕ) → Search → Type 0
Finds text (search.Found opening length) = opened_in text ≡ Some (opening_seen opening, length)
Finds text (search.Missing held) = (head_in text ≡ None) × (held.items ≡ text)
