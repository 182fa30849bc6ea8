-- The text of replies that stand in a list, one for each connection.
use Rattle.std.specs.Prelude.{ℕ, suc, List, [], ◌∷◌, ◌++◌}
use Rattle.recorded_runner.specs.ReplayText.{connection_text}

-- connection by connection, from this link on
abbrev pub joined_from : (link : ℕ) → List (List ℕ) → List ℕ
joined_from link [] = []
joined_from link (replies ∷ others) = connection_text link replies ++ joined_from (suc link) others
