-- The places of a server's board, and lists of them.
use Rattle.std.specs.Prelude.{ℕ, ◌+◌, ◌<◌, ◌==◌, List, [], ◌∷◌, if◌then◌else◌}

abbrev pub IsPlace : ℕ → Type 0
IsPlace n = n < 256

-- how often a number stands in a list
abbrev pub times : ℕ → List ℕ → ℕ
times n [] = 0
times n (x ∷ xs) = (if x == n then 1 else 0) + times n xs
