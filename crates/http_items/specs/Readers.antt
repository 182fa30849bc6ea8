-- Readers: functions that take a piece off the front of bytes, and what it says that one reads a grammar.
use Rattle.std.specs.Prelude.{◌≡◌, ℕ, Bool, List, Option, Some, None, if◌then◌else◌}
use Rattle.httparse.specs.Pieces.{Piece}

-- the piece and the bytes behind it, if the bytes begin with one
abbrev pub Reader : Type 0 → Type 0
Reader A = List ℕ → Option (A × List ℕ)

-- the reader finds each piece of the grammar, and nothing else
pub record IsReaderOf {A : Type 0} (piece : Piece A) (read : Reader A) : Type 0 where
  pub reads : (text : List ℕ) (a : A) (rest : List ℕ) → read text ≡ Some (a, rest) → piece a text rest
  pub finds : (text : List ℕ) (a : A) (rest : List ℕ) → piece a text rest → read text ≡ Some (a, rest)

-- another piece behind one that was read
abbrev pub beside : {A B : Type 0} → A → Option (B × List ℕ) → Option ((A × B) × List ℕ)
beside a None = None
beside a (Some x) = Some ((a, x.0), x.1)

abbrev pub followed : {A B : Type 0} → Reader B → Option (A × List ℕ) → Option ((A × B) × List ℕ)
followed next None = None
followed next (Some x) = beside x.0 (next x.1)

-- one piece and then another
abbrev pub in_turn : {A B : Type 0} → Reader A → Reader B → Reader (A × B)
in_turn first next text = followed next (first text)

-- the piece, if it passes the test
abbrev pub passed : {A : Type 0} → (A → Bool) → Option (A × List ℕ) → Option (A × List ℕ)
passed test None = None
passed test (Some x) = if test x.0 then Some x else None

-- a piece that passes the test
abbrev pub checked : {A : Type 0} → (A → Bool) → Reader A → Reader A
checked test read text = passed test (read text)

-- the piece, told as another value
abbrev pub retold : {A B : Type 0} → (A → B) → Option (A × List ℕ) → Option (B × List ℕ)
retold as_other None = None
retold as_other (Some x) = Some (as_other x.0, x.1)
