-- What becomes of a request by its heading alone: its method, its target, its version and its lines.
use Rattle.std.specs.Prelude.{ℕ, Bool, true, false, not, ◌&&◌, ◌||◌, List, [], ◌∷◌, length, map, Option, Some, None, Result, Ok, Err, codes, if◌then◌else◌, ◌==◌, nat_lt, nat_le, bytes_eq}
use Rattle.std.specs.List.{list_all}
use Rattle.std.specs.Char.{is_ascii_digit}
use Rattle.std.specs.Str.Parse.{digits_value}
use Rattle.httparse.specs.Grammar.{RequestHead}
use Rattle.httparse.specs.Spans.{name_and_value}
use Rattle.http1.specs.Text.{eq_ignore_case}
use Rattle.http1.specs.Fields.{elements_named, has_option}
use Rattle.http_items.specs.declared.methods.Method.{Method}
use Rattle.http_items.specs.declared.methods.Method.TheVariants as method
use Rattle.http_items.specs.declared.refusals.Refusal.{Refusal}
use Rattle.http_items.specs.declared.refusals.Refusal.TheVariants.{BadHost, TransferCoding, BadLength, TooLarge, BadTarget, BadMethod}
use Rattle.http_items.specs.Targets.{path_of}

pub record Heading : Type 0 where
  pub method : List ℕ
  pub target : List ℕ
  pub minor : ℕ
  -- the name and the value of each line, without the white space around the value
  pub lines : List (List ℕ × List ℕ)

abbrev pub heading_of : RequestHead → Heading
heading_of h = record { method = h.method; target = h.target; minor = h.minor; lines = map name_and_value h.fields }

-- how often a line stands among others, and its value where it stands once
pub data Occurrence : Type 0 where
  Missing : Occurrence
  Once : (value : List ℕ) → Occurrence
  Repeated : Occurrence

-- one more line of the name
abbrev pub once_more : (value : List ℕ) → Occurrence → Occurrence
once_more value Missing = Once value
once_more value (Once _) = Repeated
once_more value Repeated = Repeated

-- the lines of a name, whose case does not count
abbrev pub named : (name : List ℕ) (lines : List (List ℕ × List ℕ)) → Occurrence
named name [] = Missing
named name (line ∷ lines) = if eq_ignore_case line.0 name then once_more line.1 (named name lines) else named name lines

abbrev pub is_missing : Occurrence → Bool
is_missing Missing = true
is_missing (Once _) = false
is_missing Repeated = false

abbrev pub is_once : Occurrence → Bool
is_once Missing = false
is_once (Once _) = true
is_once Repeated = false

-- the most bytes that a body may have
abbrev pub most_body : ℕ
most_body = 1048576

-- one or more digits
abbrev pub is_number : List ℕ → Bool
is_number digits = nat_lt 0 (length digits) && list_all is_ascii_digit digits

-- a size that is not too large
abbrev pub size_within : ℕ → Result ℕ Refusal
size_within size = if nat_le size most_body then Ok size else Err TooLarge

-- the size that a Content-Length tells
abbrev pub told_size : List ℕ → Result ℕ Refusal
told_size value = if is_number value then size_within (digits_value 10 value) else Err BadLength

-- without one the body is empty
abbrev pub size_of : Occurrence → Result ℕ Refusal
size_of Missing = Ok 0
size_of (Once value) = told_size value
size_of Repeated = Err BadLength

-- the request names its host (RFC 9112 section 3.2)
abbrev pub has_host : Heading → Bool
has_host g = not (g.minor == 1) || is_once (named (codes "host") g.lines)

-- the size of the body, or the first of the refusals that come as soon as the head is read
abbrev pub body_size : Heading → Result ℕ Refusal
body_size g =
    if has_host g then (
    if is_missing (named (codes "transfer-encoding") g.lines) then size_of (named (codes "content-length") g.lines)
    else Err TransferCoding)
    else Err BadHost

-- the method, if it is one that is served
abbrev pub method_of : List ℕ → Option Method
method_of name =
    if bytes_eq name (codes "GET") then Some method.Get else (
    if bytes_eq name (codes "HEAD") then Some method.Head else (
    if bytes_eq name (codes "POST") then Some method.Post else None))

abbrev pub is_head : Method → Bool
is_head method.Get = false
is_head method.Head = true
is_head method.Post = false

-- the request's reply has no body
abbrev pub asks_head : Heading → Bool
asks_head g = bytes_eq g.method (codes "HEAD")

-- the connection is kept after the request (RFC 9112 section 9.3)
abbrev pub is_kept : Heading → Bool
is_kept g = (g.minor == 1) && not (has_option (codes "close") (elements_named (codes "connection") g.lines))

-- what a request comes to as soon as its body is whole
pub data Due : Type 0 where
  Serve : (method : Method) (path : List ℕ) (keep : Bool) → Due
  Refuse : (refusal : Refusal) (head keep : Bool) → Due

abbrev pub due_by_method : Option Method → (path : List ℕ) (g : Heading) → Due
due_by_method None path g = Refuse BadMethod (asks_head g) (is_kept g)
due_by_method (Some m) path g = Serve m path (is_kept g)

abbrev pub due_by_path : Option (List ℕ) → Heading → Due
due_by_path None g = Refuse BadTarget (asks_head g) false
due_by_path (Some path) g = due_by_method (method_of g.method) path g

abbrev pub due_of : Heading → Due
due_of g = due_by_path (path_of g.target) g

-- the reply to what is due has no body
abbrev pub due_to_head : Due → Bool
due_to_head (Serve m path keep) = is_head m
due_to_head (Refuse refusal head keep) = head

-- the connection is kept after what is due
abbrev pub due_keeps : Due → Bool
due_keeps (Serve m path keep) = keep
due_keeps (Refuse refusal head keep) = keep

-- what a head opens: a refusal at once, or a body, and then what is due
pub data Opening : Type 0 where
  Refused : (refusal : Refusal) (head : Bool) → Opening
  Awaits : (due : Due) (size : ℕ) → Opening

abbrev pub opening_with : Result ℕ Refusal → Heading → Opening
opening_with (Err refusal) g = Refused refusal (asks_head g)
opening_with (Ok size) g = Awaits (due_of g) size

unfoldable pub opening_of : Heading → Opening
opening_of g = opening_with (body_size g) g
