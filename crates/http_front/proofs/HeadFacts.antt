-- What httparse answers of bytes, in the words of the definitions.
use Rattle.std.proofs.Common.{◌≡◌, ℕ, ◌≤◌, inl, inr, List, [], ◌++◌, length, map, take, drop, Option, Some, None, option_map, ap, sym, ◌∙◌, arith, length-take}
use Rattle.std.proofs.lemmas.List.{length-map}
use Rattle.std.proofs.lemmas.Option.{none-some, same_Some}
use Rattle.httparse.specs.declared.spans.HeaderSpan.{HeaderSpan}
use Rattle.httparse.specs.declared.spans.RequestSpans.{RequestSpans}
use Rattle.httparse.specs.Grammar.{RequestHead, print_request, HasNoRequest}
use Rattle.httparse.specs.Spans.{span_bytes, header_bytes, name_and_value, IsRequestOf, IsRequestWithin, RequestOverflows}
use Rattle.httparse.proofs.GrammarLemmas.{ReadsRequest-append}
use Rattle.http_items.specs.Heads.{head_in, IsHead}
use Rattle.http_items.specs.Headings.{Heading, heading_of, Opening, opening_of}
use Rattle.http_items.proofs.FrontLaws.{none_or_some, head_in_reads, head_in_finds}
use Rattle.http_front.specs.Views.{opens_and_length, opened_in}

same_heading : (a b : Heading) → a.method ≡ b.method → a.target ≡ b.target → a.minor ≡ b.minor → a.lines ≡ b.lines → a ≡ b
same_heading a b method target minor lines = λ i. record { method = method i; target = target i; minor = minor i; lines = lines i }

-- a head that was found
pub head_found : (text : List ℕ) (headers : List HeaderSpan) (r : RequestSpans) (g : Heading) (o : Opening) → o ≡ opening_of g →
    IsRequestOf text headers r → IsRequestWithin text headers r → length text ≤ 8192 → length headers ≡ 128 →
    g.method ≡ span_bytes text r.method → g.target ≡ span_bytes text r.path → g.minor ≡ r.version → g.lines ≡ map (header_bytes text) (take r.headers headers) →
    opened_in text ≡ Some (o, r.len)
unfolding opened_in
head_found text headers r g o is_opening found within small room method target minor lines =
    let h : RequestHead = found.0 in
    let at = found.1 in
    let counts : length (map (header_bytes text) (take r.headers headers)) ≡ length (map name_and_value h.fields) =
    ap (λ (t : List (List ℕ × List ℕ)). length t) at.fields in
    let spans : length (map (header_bytes text) (take r.headers headers)) ≡ length (take r.headers headers) = simp length-map in
    let fields : length (map name_and_value h.fields) ≡ length h.fields = simp length-map in
    let count_fits = within.section.count_fits in
    let len_fits = within.section.len_fits in
    let len_is = at.len in
    let few : length h.fields ≤ 128 = omega (arith, counts, spans, fields, length-take r.headers headers) in
    let head : IsHead text h (drop r.len text) = record { reads = at.reads; few_lines = few; short = omega arith } in
    let same : heading_of h ≡ g =
    same_heading (heading_of h) g (sym at.method ∙ sym method) (sym at.path ∙ sym target) (sym at.version ∙ sym minor) (sym at.fields ∙ sym lines) in
    ap (option_map opens_and_length) (head_in_finds text h (drop r.len text) head)
    ∙ ap (λ (g : Heading). let o : Option (Opening × ℕ) = Some (opening_of g, length (print_request h)) in o) same
    ∙ ap (λ (n : ℕ). let o : Option (Opening × ℕ) = Some (opening_of g, n) in o) (sym len_is)
    ∙ ap (λ (x : Opening). let o : Option (Opening × ℕ) = Some (x, r.len) in o) (sym is_opening)

lacks_head : (text : List ℕ) → ((h : RequestHead) (rest : List ℕ) → IsHead text h rest → ⊥) → head_in text ≡ None
lacks_head text lacks = elim (none_or_some (head_in text)) [
  | inl none ↦ none
  | inr found ↦ absurd (lacks found.0.0 found.0.1 (head_in_reads text found.0.0 found.0.1 found.1))
]

-- none was, nor is there one of so few lines
pub head_lacking : (text : List ℕ) → HasNoRequest text → head_in text ≡ None
head_lacking text lacks = lacks_head text (λ h rest head. lacks h rest head.reads)

pub head_overflowing : (text : List ℕ) (room : ℕ) → room ≡ 128 → RequestOverflows room text → head_in text ≡ None
head_overflowing text room is over = lacks_head text (λ h rest head.
    let few = head.few_lines in
    let many = over [] h (rest ++ []) (ReadsRequest-append text h rest [] head.reads) in
    absurd (omega arith))

-- what a search tells of the head itself

pub some_opened : (text : List ℕ) (o : Opening) (len : ℕ) → opened_in text ≡ Some (o, len) →
    (h : RequestHead) × (rest : List ℕ) × (head_in text ≡ Some (h, rest)) × (opening_of (heading_of h) ≡ o) × (length (print_request h) ≡ len)
unfolding opened_in
some_opened text o len e = elim (none_or_some (head_in text)) [
  | inl none ↦ absurd (none-some (o, len) (sym (ap (option_map opens_and_length) none) ∙ e))
  | inr found ↦
      let same : opens_and_length found.0 ≡ (o, len) = same_Some _ _ (sym (ap (option_map opens_and_length) found.1) ∙ e) in
      (found.0.0, found.0.1, found.1, ap (λ (x : Opening × ℕ). x.0) same, ap (λ (x : Opening × ℕ). x.1) same)
]
