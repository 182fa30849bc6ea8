-- How long replies are.
use Rattle.std.specs.Prelude.{ℕ, ◌+◌, ◌≤◌, List, [], ◌∷◌, length}

-- the most bytes of a reply: 65,536 of a body, and at most 512 of a head
abbrev pub most_reply : ℕ
most_reply = 66048

-- how many bytes of replies there are, those of all connections together
abbrev pub total : List (List ℕ) → ℕ
total [] = 0
total (replies ∷ others) = length replies + total others

-- all connections together have no more bytes of replies than this
abbrev pub AreWithin : (most : ℕ) → List (List ℕ) → Type 0
AreWithin most replies = total replies ≤ most
