-- The head in front of a connection's bytes, as more of them come, and the item that they begin with.
use Rattle.std.proofs.Common.{◌≡◌, ℕ, ◌<◌, ◌≤◌, ◌||◌, ◌⊎◌, inl, inr, Bool, true, false, List, [], ◌∷◌, ◌++◌, length, flat_map, eqb, Option, Some, None, refl, ap, sym, ◌∙◌, arith, append_assoc, length-append}
use Rattle.std.specs.List.{list_any}
use Rattle.std.proofs.lemmas.Option.{none-some}
use Rattle.std.proofs.lemmas.Bool.{cases_lt, leb-true, le-leb}
use Rattle.httparse.specs.Grammar.{RequestHead, print_request, ReadsRequest, LineEnd, crlf, lf, print_end, print_blank, print_version, print_field}
use Rattle.httparse.proofs.GrammarLemmas.{ReadsRequest-append}
use Rattle.http_items.specs.Heads.{head_at, head_in, is_short, IsHead, most_head, most_lines}
use Rattle.http_items.proofs.ReaderLaws.{checked_reader}
use Rattle.http_items.proofs.HeadLaws.{head_reader}

-- what two lists begin with, where they go on alike
pub front_of : (a b c d : List ℕ) → a ++ b ≡ c ++ d → length c ≤ length a → (e : List ℕ) × (a ≡ c ++ e) × (d ≡ e ++ b)
front_of a b [] d h fits = (a, refl, sym h)
front_of [] b (y ∷ c) d h fits = absurd (omega arith)
front_of (x ∷ a) b (y ∷ c) d h fits =
    let first : x ≡ y = cc in
    let others : a ++ b ≡ c ++ d = cc in
    let e = front_of a b c d others (omega arith) in
    (e.0, ap (λ (n : ℕ). n ∷ a) first ∙ ap (λ (t : List ℕ). y ∷ t) e.1, e.2)

pub head_in_reads : (text : List ℕ) (h : RequestHead) (rest : List ℕ) → head_in text ≡ Some (h, rest) → IsHead text h rest
unfolding head_in
head_in_reads text h rest e =
    let x = (checked_reader (λ h text rest. ReadsRequest text h rest × (length h.fields ≤ most_lines)) is_short (head_at most_lines) (head_reader most_lines)).reads text h rest e in
    record { reads = x.0.0; few_lines = x.0.1; short = leb-true (length (print_request h)) most_head x.1 }

pub head_in_finds : (text : List ℕ) (h : RequestHead) (rest : List ℕ) → IsHead text h rest → head_in text ≡ Some (h, rest)
unfolding head_in
head_in_finds text h rest x =
    (checked_reader (λ h text rest. ReadsRequest text h rest × (length h.fields ≤ most_lines)) is_short (head_at most_lines) (head_reader most_lines)).finds text h rest
    ((x.reads, x.few_lines), le-leb (length (print_request h)) most_head x.short)

-- a head that is there stays with bytes behind it
pub head_in_more : (text : List ℕ) (h : RequestHead) (rest more : List ℕ) → head_in text ≡ Some (h, rest) → head_in (text ++ more) ≡ Some (h, rest ++ more)
head_in_more text h rest more e =
    let x = head_in_reads text h rest e in
    head_in_finds (text ++ more) h (rest ++ more)
    (record { reads = ReadsRequest-append text h rest more x.reads; few_lines = x.few_lines; short = x.short })

pub head_in_text : (text : List ℕ) (h : RequestHead) (rest : List ℕ) → head_in text ≡ Some (h, rest) → text ≡ print_request h ++ rest
head_in_text text h rest e = (head_in_reads text h rest e).reads.1

-- where a head ends

ends_in_feed : (e : LineEnd) → (front : List ℕ) × (print_end e ≡ front ++ 10 ∷ [])
ends_in_feed crlf = (13 ∷ [], refl)
ends_in_feed lf = ([], refl)

head_ends_in_feed : (h : RequestHead) → (front : List ℕ) × (print_request h ≡ front ++ 10 ∷ [])
unfolding print_request
head_ends_in_feed h =
    let last = ends_in_feed h.last in
    let before : List ℕ = print_blank h.blank ++ h.method ++ 32 ∷ h.target ++ 32 ∷ print_version h.minor ++ print_end h.line_end in
    let fields : List ℕ = flat_map print_field h.fields in (
      before ++ (fields ++ last.0),
      ap (λ (t : List ℕ). before ++ (fields ++ t)) last.1
          ∙ ap (λ (t : List ℕ). before ++ t) (sym (append_assoc fields last.0 (10 ∷ [])))
          ∙ sym (append_assoc before (fields ++ last.0) (10 ∷ [])),
    )

pub head_not_empty : (h : RequestHead) → 0 < length (print_request h)
head_not_empty h =
    let e = head_ends_in_feed h in
    let sizes = ap (λ (t : List ℕ). length t) e.1 ∙ length-append e.0 (10 ∷ []) in omega arith

-- what an option is
pub none_or_some : {A : Type 0} (o : Option A) → (o ≡ None) ⊎ ((x : A) × (o ≡ Some x))
none_or_some None = inl refl
none_or_some (Some x) = inr (x, refl)

-- a head that comes with further bytes ends among them
pub head_ends_after : (held taken : List ℕ) (h : RequestHead) (rest : List ℕ) → head_in held ≡ None → head_in (held ++ taken) ≡ Some (h, rest) →
    length held < length (print_request h)
head_ends_after held taken h rest none found = elim (cases_lt (length held) (length (print_request h))) [
  | inl later ↦ later
  | inr within ↦
      let x = head_in_reads (held ++ taken) h rest found in
      let e = front_of held taken (print_request h) rest x.reads.1 within in
      let there = head_in_finds held h e.0 (record { reads = (x.reads.0, e.1); few_lines = x.few_lines; short = x.short }) in
      absurd (none-some (h, e.0) (sym none ∙ there))
]

-- no further bytes make a head behind so many
pub head_in_at_limit : (text more : List ℕ) → most_head ≤ length text → head_in text ≡ None → head_in (text ++ more) ≡ None
head_in_at_limit text more full none = elim (none_or_some (head_in (text ++ more))) [
  | inl still ↦ still
  | inr found ↦
      let x = head_in_reads (text ++ more) found.0.0 found.0.1 found.1 in
      let later = head_ends_after text more found.0.0 found.0.1 none found.1 in
      let short = x.short in
      absurd (omega arith)
]

feed_among : (front rest : List ℕ) → list_any (λ b. eqb b 10) (front ++ 10 ∷ rest) ≡ true
feed_among [] rest = refl
feed_among (b ∷ front) rest = later (eqb b 10) _ (feed_among front rest)
  where
    later : (p q : Bool) → q ≡ true → (p || q) ≡ true
    later true q e = refl
    later false q e = e

-- nor do bytes without a line feed
pub no_head_without_feed : (held taken : List ℕ) → head_in held ≡ None → list_any (λ b. eqb b 10) taken ≡ false → head_in (held ++ taken) ≡ None
no_head_without_feed held taken none no_feed = elim (none_or_some (head_in (held ++ taken))) [
  | inl still ↦ still
  | inr found ↦
      let h : RequestHead = found.0.0 in
      let rest : List ℕ = found.0.1 in
      let text = head_in_text (held ++ taken) h rest found.1 in
      let later = head_ends_after held taken h rest none found.1 in
      let e = head_ends_in_feed h in
      let sizes = ap (λ (t : List ℕ). length t) e.1 ∙ length-append e.0 (10 ∷ []) in
      let whole : e.0 ++ 10 ∷ rest ≡ held ++ taken =
      sym (append_assoc e.0 (10 ∷ []) rest) ∙ ap (λ (t : List ℕ). t ++ rest) (sym e.1) ∙ sym text in
      let parts = front_of e.0 (10 ∷ rest) held taken whole (omega arith) in
      let feed = ap (λ (t : List ℕ). list_any (λ b. eqb b 10) t) parts.2 ∙ feed_among parts.0 rest in
      let bad : ⊥ = cc (feed, no_feed) in
      absurd bad
]

-- there is none in front of no bytes
pub head_in_nothing : head_in [] ≡ None
head_in_nothing = elim (none_or_some (head_in [])) [
  | inl none ↦ none
  | inr found ↦
      let sizes = ap (λ (t : List ℕ). length t) (head_in_text [] found.0.0 found.0.1 found.1) ∙ length-append (print_request found.0.0) found.0.1 in
      let some = head_not_empty found.0.0 in
      absurd (omega arith)
]
