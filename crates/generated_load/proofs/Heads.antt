-- The head of a request of the load is one by the grammar, and what is read from it.
use Rattle.std.proofs.Common.{◌≡◌, ℕ, zero, suc, ◌<◌, ◌≤◌, Bool, true, false, ◌&&◌, nat_lt, if◌then◌else◌, List, [], ◌∷◌, ◌++◌, length, reverse, codes, Some, Result, Ok, IsUtf8, refl, sym, ap, ◌∙◌, arith, append_assoc, append-nil, length-append, le-leb, lt-ltb}
use Rattle.std.specs.List.{list_all}
use Rattle.std.specs.Char.{is_ascii_digit, digit_value, encode_utf8}
use Rattle.std.specs.Str.{chars, is_utf8}
use Rattle.std.specs.Str.Parse.{AllDigits, digits_value}
use Rattle.std.proofs.lemmas.Bool.Decides.{nat_tests}
use Rattle.std.proofs.lemmas.List.Elements.{All-from_recursion}
use Rattle.std.proofs.lemmas.List.Sums.{AllPass-from_list_all, list_all-from_AllPass}
use Rattle.std.proofs.lemmas.Str.{IsUtf8-from_is_utf8}
use Rattle.httparse.specs.Ascii.{crlf_bytes}
use Rattle.httparse.specs.Grammar.{is_token_byte, is_uri_byte, is_value_byte, is_ows, crlf, Field, IsField, skip_ows, trim_ows, RequestHead, print_request, IsRequestHead}
use Rattle.httparse.proofs.TrimLemmas.{AllPass-reverse, trim_ows_space}
use Rattle.http1.specs.Text.{eq_ignore_case}
use Rattle.http_items.specs.declared.methods.Method.TheVariants.{Post}
use Rattle.http_items.specs.declared.refusals.Refusal.{Refusal}
use Rattle.http_items.specs.Heads.{head_in}
use Rattle.http_items.specs.Headings.{Heading, heading_of, most_body, size_within, told_size, Serve, Awaits, opening_with, opening_of}
use Rattle.http_items.specs.Targets.{path_of}
use Rattle.http_items.proofs.FrontLaws.{head_in_finds}
use Rattle.generated_load.specs.Requests.{path_at}

-- ---- the digits of a length

both_true : (b c : Bool) → b ≡ true → c ≡ true → (b && c) ≡ true
both_true true true p q = refl
both_true true false p q = absurd cc
both_true false c p q = absurd cc

first_true : (b c : Bool) → (b && c) ≡ true → b ≡ true
first_true true c e = refl
first_true false c e = absurd cc

digit_is_ascii : (c : ℕ) → digit_value c < 10 → is_ascii_digit c ≡ true
digit_is_ascii c small = grind (arith, nat_tests)

pub digits_are_ascii : (digits : List ℕ) → AllDigits 10 digits → list_all is_ascii_digit digits ≡ true
digits_are_ascii [] all = refl
digits_are_ascii (c ∷ cs) all = both_true (is_ascii_digit c) (list_all is_ascii_digit cs) (digit_is_ascii c all.0) (digits_are_ascii cs all.1)

-- a digit may stand in the value of a line
digit_in_value : (c : ℕ) → is_ascii_digit c ≡ true → is_value_byte c ≡ true
digit_in_value c digit = grind (arith, nat_tests)

second_true : (b c : Bool) → (b && c) ≡ true → c ≡ true
second_true true c e = e
second_true false c e = absurd cc

digits_in_value : (digits : List ℕ) → list_all is_ascii_digit digits ≡ true → list_all is_value_byte digits ≡ true
digits_in_value [] all = refl
digits_in_value (c ∷ cs) all =
    both_true (is_value_byte c) (list_all is_value_byte cs) (digit_in_value c (first_true (is_ascii_digit c) (list_all is_ascii_digit cs) all))
    (digits_in_value cs (second_true (is_ascii_digit c) (list_all is_ascii_digit cs) all))

-- and it is no white space
digit_no_space : (c : ℕ) → is_ascii_digit c ≡ true → is_ows c ≡ false
digit_no_space c e = grind (arith, nat_tests)

no_space_skipped : (digits : List ℕ) → list_all is_ascii_digit digits ≡ true → skip_ows digits ≡ digits
no_space_skipped [] all = refl
no_space_skipped (c ∷ cs) all =
    ap (λ (b : Bool). if b then skip_ows cs else c ∷ cs) (digit_no_space c (first_true (is_ascii_digit c) (list_all is_ascii_digit cs) all))

space_trimmed : (digits : List ℕ) → list_all is_ascii_digit digits ≡ true → trim_ows (32 ∷ digits) ≡ digits
space_trimmed digits all =
    trim_ows_space digits (no_space_skipped digits all)
    (no_space_skipped (reverse digits)
    (list_all-from_AllPass is_ascii_digit (reverse digits) (AllPass-reverse is_ascii_digit digits (AllPass-from_list_all is_ascii_digit digits all))))

-- the size that they tell
size_told : (digits : List ℕ) (size : ℕ) → 0 < length digits → list_all is_ascii_digit digits ≡ true → digits_value 10 digits ≡ size → size ≤ most_body →
    told_size digits ≡ Ok size
size_told digits size some all is few =
    ap (λ (b : Bool). if b then size_within (digits_value 10 digits) else told_size [])
    (both_true (nat_lt 0 (length digits)) (list_all is_ascii_digit digits) (lt-ltb 0 (length digits) some) all)
    ∙ ap size_within is
    ∙ ap (λ (b : Bool). let r : Result ℕ Refusal = if b then Ok size else size_within 1048577 in r) (le-leb size most_body few)

-- ---- the head as a tree

abbrev host_line : Field
host_line = record { name = codes "Host"; raw = codes " soak"; end = crlf }

abbrev length_line : (digits : List ℕ) → Field
length_line digits = record { name = codes "Content-Length"; raw = 32 ∷ digits; end = crlf }

abbrev pub head_with : (path digits : List ℕ) → RequestHead
head_with path digits = record {
  blank = [];
  method = codes "POST";
  target = path;
  minor = 1;
  line_end = crlf;
  fields = host_line ∷ length_line digits ∷ [];
  last = crlf;
}

-- and as bytes
abbrev pub text_with : (path digits : List ℕ) → List ℕ
text_with path digits = codes "POST " ++ (path ++ (codes " HTTP/1.1\r\nHost: soak\r\nContent-Length: " ++ (digits ++ codes "\r\n\r\n")))

abbrev heading_with : (path value : List ℕ) → Heading
heading_with path value = record {
  method = codes "POST";
  target = path;
  minor = 1;
  lines = (codes "Host", trim_ows (codes " soak")) ∷ (codes "Content-Length", value) ∷ [];
}

last_line : (digits : List ℕ) → ((digits ++ crlf_bytes) ++ []) ++ crlf_bytes ≡ digits ++ codes "\r\n\r\n"
last_line digits = ap (λ (l : List ℕ). l ++ crlf_bytes) (append-nil (digits ++ crlf_bytes)) ∙ append_assoc digits crlf_bytes crlf_bytes

-- ---- the four paths

pub record IsPath (path : List ℕ) : Type 0 where
  printed : (digits : List ℕ) → print_request (head_with path digits) ≡ text_with path digits
  some : 0 < length path
  visible : list_all is_uri_byte path ≡ true
  text : IsUtf8 path
  few : length path ≤ 5
  opens : (value : List ℕ) (size : ℕ) → told_size value ≡ Ok size → opening_of (heading_with path value) ≡ Awaits (Serve Post path true) size

nil_path : IsPath (codes "/nil")
unfolding print_request opening_of path_of eq_ignore_case is_utf8 chars encode_utf8
nil_path = record {
  printed = λ digits. ap (λ (l : List ℕ). codes "POST " ++ (codes "/nil" ++ (codes " HTTP/1.1\r\nHost: soak\r\nContent-Length: " ++ l))) (last_line digits);
  some = omega arith;
  visible = refl;
  text = IsUtf8-from_is_utf8 (codes "/nil") refl;
  few = omega arith;
  opens = λ value size is. ap (λ (r : Result ℕ Refusal). opening_with r (heading_with (codes "/nil") value)) is;
}

trap_path : IsPath (codes "/trap")
unfolding print_request opening_of path_of eq_ignore_case is_utf8 chars encode_utf8
trap_path = record {
  printed = λ digits. ap (λ (l : List ℕ). codes "POST " ++ (codes "/trap" ++ (codes " HTTP/1.1\r\nHost: soak\r\nContent-Length: " ++ l))) (last_line digits);
  some = omega arith;
  visible = refl;
  text = IsUtf8-from_is_utf8 (codes "/trap") refl;
  few = omega arith;
  opens = λ value size is. ap (λ (r : Result ℕ Refusal). opening_with r (heading_with (codes "/trap") value)) is;
}

loop_path : IsPath (codes "/loop")
unfolding print_request opening_of path_of eq_ignore_case is_utf8 chars encode_utf8
loop_path = record {
  printed = λ digits. ap (λ (l : List ℕ). codes "POST " ++ (codes "/loop" ++ (codes " HTTP/1.1\r\nHost: soak\r\nContent-Length: " ++ l))) (last_line digits);
  some = omega arith;
  visible = refl;
  text = IsUtf8-from_is_utf8 (codes "/loop") refl;
  few = omega arith;
  opens = λ value size is. ap (λ (r : Result ℕ Refusal). opening_with r (heading_with (codes "/loop") value)) is;
}

echo_path : IsPath (codes "/echo")
unfolding print_request opening_of path_of eq_ignore_case is_utf8 chars encode_utf8
echo_path = record {
  printed = λ digits. ap (λ (l : List ℕ). codes "POST " ++ (codes "/echo" ++ (codes " HTTP/1.1\r\nHost: soak\r\nContent-Length: " ++ l))) (last_line digits);
  some = omega arith;
  visible = refl;
  text = IsUtf8-from_is_utf8 (codes "/echo") refl;
  few = omega arith;
  opens = λ value size is. ap (λ (r : Result ℕ Refusal). opening_with r (heading_with (codes "/echo") value)) is;
}

pub known_path : (number : ℕ) → number < 4 → IsPath (path_at number)
known_path zero below = nil_path
known_path (suc zero) below = trap_path
known_path (suc (suc zero)) below = loop_path
known_path (suc (suc (suc zero))) below = echo_path
known_path (suc (suc (suc (suc number)))) below = absurd (omega (arith, below))

-- ---- the head is one

host_is : IsField host_line
unfolding is_token_byte
host_is = record {
  name = (omega arith, AllPass-from_list_all is_token_byte (codes "Host") refl);
  raw = AllPass-from_list_all is_value_byte (codes " soak") refl;
}

length_is : (digits : List ℕ) → list_all is_value_byte digits ≡ true → IsField (length_line digits)
unfolding is_token_byte
length_is digits values = record {
  name = (omega arith, AllPass-from_list_all is_token_byte (codes "Content-Length") refl);
  raw = AllPass-from_list_all is_value_byte (32 ∷ digits) values;
}

head_is : (path digits : List ℕ) → IsPath path → list_all is_value_byte digits ≡ true → IsRequestHead (head_with path digits)
unfolding is_token_byte
head_is path digits p values = record {
  method = (omega arith, AllPass-from_list_all is_token_byte (codes "POST") refl);
  target = (p.some, AllPass-from_list_all is_uri_byte path p.visible);
  target_text = p.text;
  minor = omega arith;
  fields = All-from_recursion IsField (host_line ∷ length_line digits ∷ []) (host_is, (length_is digits values, tt));
}

text_few : (path digits : List ℕ) → length path ≤ 5 → length digits ≤ 4 → length (text_with path digits) ≤ 100
text_few path digits few more =
    let behind = codes " HTTP/1.1\r\nHost: soak\r\nContent-Length: " in
    omega (
      arith,
      length-append (codes "POST ") (path ++ (behind ++ (digits ++ codes "\r\n\r\n"))),
      length-append path (behind ++ (digits ++ codes "\r\n\r\n")),
      length-append behind (digits ++ codes "\r\n\r\n"),
      length-append digits (codes "\r\n\r\n"),
      few,
      more,
    )

-- so it is found in front of a body and of what is behind that
pub head_found : (path digits body rest : List ℕ) → IsPath path → list_all is_ascii_digit digits ≡ true → length digits ≤ 4 →
    head_in ((text_with path digits ++ body) ++ rest) ≡ Some (head_with path digits, body ++ rest)
head_found path digits body rest p all few =
    head_in_finds ((text_with path digits ++ body) ++ rest) (head_with path digits) (body ++ rest) (record {
      reads = (
        head_is path digits p (digits_in_value digits all),
        append_assoc (text_with path digits) body rest ∙ ap (λ (l : List ℕ). l ++ (body ++ rest)) (sym (p.printed digits)),
      );
      few_lines = omega arith;
      short = omega (arith, ap (λ (l : List ℕ). length l) (p.printed digits), text_few path digits p.few few);
    })

-- and opens a body of the size that it tells
pub head_opens : (path digits : List ℕ) (size : ℕ) → IsPath path → 0 < length digits → list_all is_ascii_digit digits ≡ true → digits_value 10 digits ≡ size → size ≤ most_body →
    opening_of (heading_of (head_with path digits)) ≡ Awaits (Serve Post path true) size
head_opens path digits size p some all is few =
    ap (λ (value : List ℕ). opening_of (heading_with path value)) (space_trimmed digits all) ∙ p.opens digits size (size_told digits size some all is few)
