-- The head in front of bytes, as a function: what httparse's grammar of requests has as one (RFC 9112 sections 2.1, 2.2, 2.3, 3 and 5).
use Rattle.std.specs.Prelude.{ℕ, zero, suc, ◌≤◌, Bool, true, false, List, [], ◌∷◌, length, Option, Some, None, codes, if◌then◌else◌, ◌==◌, nat_lt, nat_le}
use Rattle.std.specs.Str.{is_utf8}
use Rattle.httparse.specs.Ascii.{line_feed, carriage_return, space, colon}
use Rattle.httparse.specs.Grammar.{is_token_byte, is_uri_byte, is_value_byte, LineEnd, crlf, lf, Field, RequestHead, print_request, ReadsRequest}
use Rattle.http_items.specs.Readers.{Reader, in_turn, checked, retold}

-- the line feed behind a carriage return
abbrev pub line_feed_at : Reader LineEnd
line_feed_at [] = None
line_feed_at (b ∷ text) = if b == line_feed then Some (crlf, text) else None

-- CR LF, or LF alone
abbrev pub line_end_at : Reader LineEnd
line_end_at [] = None
line_end_at (b ∷ text) =
    if b == line_feed then Some (lf, text) else (
    if b == carriage_return then line_feed_at text else None)

-- an empty line before others
abbrev pub behind_line : LineEnd → Option (List LineEnd × List ℕ) → Option (List LineEnd × List ℕ)
behind_line e = retold (λ ends. e ∷ ends)

-- all the empty lines up to another byte; a carriage return may stand before the bytes
unfoldable pub empty_lines_from : (behind_return : Bool) → Reader (List LineEnd)
empty_lines_from behind_return [] = None
empty_lines_from true (b ∷ text) = if b == line_feed then behind_line crlf (empty_lines_from false text) else None
empty_lines_from false (b ∷ text) =
    if b == line_feed then behind_line lf (empty_lines_from false text) else (
    if b == carriage_return then empty_lines_from true text else Some ([], b ∷ text))

abbrev pub empty_lines_at : Reader (List LineEnd)
empty_lines_at = empty_lines_from false

-- a byte before others
abbrev pub behind_byte : ℕ → Option (List ℕ × List ℕ) → Option (List ℕ × List ℕ)
behind_byte b = retold (λ word. b ∷ word)

-- the bytes that pass the test, up to the byte `stop`, which is dropped
unfoldable pub bytes_before : (test : ℕ → Bool) (stop : ℕ) → Reader (List ℕ)
bytes_before test stop [] = None
bytes_before test stop (b ∷ text) =
    if test b then behind_byte b (bytes_before test stop text) else (
    if b == stop then Some ([], text) else None)

abbrev pub is_not_empty : List ℕ → Bool
is_not_empty word = nat_lt 0 (length word)

-- one or more of them
abbrev pub word_before : (test : ℕ → Bool) (stop : ℕ) → Reader (List ℕ)
word_before test stop = checked is_not_empty (bytes_before test stop)

-- the method and its space
abbrev pub method_at : Reader (List ℕ)
method_at = word_before is_token_byte space

-- the target, which is UTF-8, and its space
abbrev pub target_at : Reader (List ℕ)
target_at = checked is_utf8 (word_before is_uri_byte space)

-- the bytes behind a text that comes first
abbrev pub behind : (wanted text : List ℕ) → Option (List ℕ)
behind [] text = Some text
behind (w ∷ wanted) [] = None
behind (w ∷ wanted) (b ∷ text) = if b == w then behind wanted text else None

-- the digit of HTTP/1.0 or HTTP/1.1
abbrev pub minor_at : Option (List ℕ) → Option (ℕ × List ℕ)
minor_at None = None
minor_at (Some []) = None
minor_at (Some (b ∷ text)) = if b == 48 then Some (0, text) else (if b == 49 then Some (1, text) else None)

abbrev pub version_at : Reader ℕ
version_at text = minor_at (behind (codes "HTTP/1.") text)

-- the bytes of a value, with the white space around it, and the end of its line
unfoldable pub value_at : Reader (List ℕ × LineEnd)
value_at [] = None
value_at (b ∷ text) =
    if is_value_byte b then retold (λ t. (b ∷ t.0, t.1)) (value_at text)
    else retold (λ e. ([], e)) (line_end_at (b ∷ text))

-- a field line: a name, a colon with no space before it, and a value
abbrev pub field_of : List ℕ × (List ℕ × LineEnd) → Field
field_of t = record { name = t.0; raw = t.1.0; end = t.1.1 }

abbrev pub field_at : Reader Field
field_at text = retold field_of (in_turn (word_before is_token_byte colon) value_at text)

-- a field line before others
abbrev pub with_field : Field × (List Field × LineEnd) → List Field × LineEnd
with_field t = (t.0 ∷ t.1.0, t.1.1)

-- what follows is the empty line that ends the section, or a field line and then the rest of it
abbrev pub section_step : Option (LineEnd × List ℕ) → (text : List ℕ) → Reader (List Field × LineEnd) → Option ((List Field × LineEnd) × List ℕ)
section_step (Some e) text again = Some (([], e.0), e.1)
section_step None text again = retold with_field (in_turn field_at again text)

-- at most this many field lines, and the empty line behind them
unfoldable pub section_at : (lines : ℕ) → Reader (List Field × LineEnd)
section_at zero text = retold (λ e. ([], e)) (line_end_at text)
section_at (suc lines) text = section_step (line_end_at text) text (λ rest. section_at lines rest)

-- the parts of a head, in their order
abbrev pub Parts : Type 0
Parts = (List LineEnd × (List ℕ × (List ℕ × (ℕ × LineEnd)))) × (List Field × LineEnd)

abbrev pub head_of : Parts → RequestHead
head_of t = record {
  blank = t.0.0;
  method = t.0.1.0;
  target = t.0.1.1.0;
  minor = t.0.1.1.1.0;
  line_end = t.0.1.1.1.1;
  fields = t.1.0;
  last = t.1.1;
}

-- the empty lines before a request, and its request line
abbrev pub request_line_at : Reader (List LineEnd × (List ℕ × (List ℕ × (ℕ × LineEnd))))
request_line_at = in_turn empty_lines_at (in_turn method_at (in_turn target_at (in_turn version_at line_end_at)))

-- the head with at most this many field lines
unfoldable pub head_at : (lines : ℕ) → Reader RequestHead
head_at lines text = retold head_of (in_turn request_line_at (section_at lines) text)

-- the most bytes that a head may have, and the most field lines
abbrev pub most_head : ℕ
most_head = 8192

abbrev pub most_lines : ℕ
most_lines = 128

-- the head is short enough
abbrev pub is_short : RequestHead → Bool
is_short h = nat_le (length (print_request h)) most_head

-- the head in front of a connection's bytes, and the bytes behind it
unfoldable pub head_in : Reader RequestHead
head_in text = checked is_short (head_at most_lines) text

-- the bytes begin with this head, which is within both limits
pub record IsHead (text : List ℕ) (h : RequestHead) (rest : List ℕ) : Type 0 where
  pub reads : ReadsRequest text h rest
  pub few_lines : length h.fields ≤ most_lines
  pub short : length (print_request h) ≤ most_head
