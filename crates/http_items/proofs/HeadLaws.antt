-- The reader of heads finds each head of httparse's grammar, and nothing else.
use Rattle.std.proofs.Common.{◌≡◌, ℕ, zero, suc, ◌+◌, ◌≤◌, ◌||◌, Bool, true, false, List, [], ◌∷◌, ◌++◌, length, Option, Some, None, codes, if◌then◌else◌, ◌==◌, refl, ap, sym, ◌∙◌, subst, arith, append_assoc, flat_map}
use Rattle.std.proofs.lemmas.Bool.{eq-eqb}
use Rattle.std.proofs.lemmas.Bool.Decides.{Decides-eqb, Decides-ltb}
use Rattle.std.proofs.lemmas.List.Elements.{All-cons, All-nil, All-head, All-tail}
use Rattle.std.proofs.lemmas.Option.{none-some, same_Some, cond_some}
use Rattle.std.proofs.lemmas.Str.{IsUtf8-from_is_utf8, is_utf8-from_IsUtf8}
use Rattle.std.specs.Str.{is_utf8}
use Rattle.httparse.specs.Grammar.{is_token_byte, is_uri_byte, is_value_byte, AllPass, LineEnd, crlf, lf, print_end, print_blank, Field, IsField, print_field, print_section, ReadsRequest}
use Rattle.httparse.specs.Pieces.{Piece, Then, Stops, is_newline, Newline, Blank, Word, Method, Target, Version, Text, FieldLine, SectionOfAtMost, RequestStart}
use Rattle.httparse.proofs.GrammarLemmas.{request_tree, request_pieces, request_from_pieces}
use Rattle.httparse.proofs.PieceLemmas.{space_ends_token, colon_ends_token, FieldLine_parts, print_field-append, Stops-FieldLine}
use Rattle.http_items.specs.Readers.{Reader, IsReaderOf, in_turn, retold}
use Rattle.http_items.specs.Heads.{line_feed_at, line_end_at, behind_line, empty_lines_from, empty_lines_at, behind_byte, bytes_before, is_not_empty, word_before, method_at, target_at, behind, minor_at, version_at, value_at, field_of, field_at, with_field, section_step, section_at, head_of, request_line_at, head_at}
use Rattle.http_items.proofs.ReaderLaws.{told, chosen, in_turn_reader, checked_reader, retold_some, retold_reader, restated}

-- a line end

line_feed_reads : (b : ℕ) (text : List ℕ) (x : LineEnd × List ℕ) → b ≡ 13 → line_feed_at text ≡ Some x → Newline x.0 (b ∷ text) x.1
line_feed_reads b [] x is_return e = absurd (none-some x e)
line_feed_reads b (c ∷ text) x is_return e =
    let parts = cond_some (c == 10) (crlf, text) x e in
    let is_feed : c ≡ 10 = (Decides-eqb c 10).0 parts.0 in
    told Newline (b ∷ c ∷ text) (crlf, text) x parts.1 (rw (is_return, is_feed))

line_end_reads : (text : List ℕ) (x : LineEnd × List ℕ) → line_end_at text ≡ Some x → Newline x.0 text x.1
line_end_reads [] x e = absurd (none-some x e)
line_end_reads (b ∷ text) x e =
    chosen (b == 10) (Some (lf, text)) (if b == 13 then line_feed_at text else None) (Some x) e
    (λ is_feed here.
    let feed : b ≡ 10 = (Decides-eqb b 10).0 is_feed in
    told Newline (b ∷ text) (lf, text) x (same_Some _ _ here) (rw feed))
    (λ _ other. chosen (b == 13) (line_feed_at text) None (Some x) other
    (λ is_return here. line_feed_reads b text x ((Decides-eqb b 13).0 is_return) here)
    (λ _ none. absurd (none-some x none)))

line_end_finds : (e : LineEnd) (text rest : List ℕ) → Newline e text rest → line_end_at text ≡ Some (e, rest)
line_end_finds crlf text rest h = ap line_end_at h
line_end_finds lf text rest h = ap line_end_at h

line_end_reader : IsReaderOf Newline line_end_at
line_end_reader = record {
  reads = λ text e rest h. line_end_reads text (e, rest) h;
  finds = λ text e rest h. line_end_finds e text rest h;
}

-- the choice, where the test is known

pub at_true : {A : Type 0} (b : Bool) (x y : A) → b ≡ true → (if b then x else y) ≡ x
at_true true x y e = refl
at_true false x y e = let bad : ⊥ = cc in absurd bad

pub at_false : {A : Type 0} (b : Bool) (x y : A) → b ≡ false → (if b then x else y) ≡ y
at_false true x y e = let bad : ⊥ = cc in absurd bad
at_false false x y e = refl

neither : (p q : Bool) → (p || q) ≡ false → (p ≡ false) × (q ≡ false)
neither true q e = let bad : ⊥ = cc in absurd bad
neither false q e = (refl, e)

no_line_end : (text : List ℕ) → Stops is_newline text → line_end_at text ≡ None
no_line_end [] h = absurd h
no_line_end (b ∷ text) h =
    let not_either = neither (b == 13) (b == 10) h in
    at_false (b == 10) (Some (lf, text)) (if b == 13 then line_feed_at text else None) not_either.1
    ∙ at_false (b == 13) (line_feed_at text) None not_either.0

-- the empty lines, behind a carriage return or not

abbrev return_before : Bool → List ℕ → List ℕ
return_before true text = 13 ∷ text
return_before false text = text

blank_more : (e : LineEnd) (front text : List ℕ) (ends : List LineEnd) (rest : List ℕ) → front ≡ print_end e ++ text → Blank ends text rest →
    Blank (e ∷ ends) front rest
blank_more e front text ends rest h blank =
    (h ∙ ap (λ (t : List ℕ). print_end e ++ t) blank.0 ∙ sym (append_assoc (print_end e) (print_blank ends) rest), blank.1)

empty_lines_read : (behind_return : Bool) (text : List ℕ) (x : List LineEnd × List ℕ) → empty_lines_from behind_return text ≡ Some x →
    Blank x.0 (return_before behind_return text) x.1
unfolding empty_lines_from
empty_lines_read true [] x e = absurd (none-some x e)
empty_lines_read false [] x e = absurd (none-some x e)
empty_lines_read true (b ∷ text) x e =
    chosen (b == 10) (behind_line crlf (empty_lines_from false text)) None (Some x) e
    (λ is_feed here.
    let y = retold_some (λ ends. crlf ∷ ends) (empty_lines_from false text) x here in
    let feed : b ≡ 10 = (Decides-eqb b 10).0 is_feed in
    told Blank (13 ∷ b ∷ text) (crlf ∷ y.0.0, y.0.1) x y.2
    (blank_more crlf (13 ∷ b ∷ text) text y.0.0 y.0.1 (ap (λ (n : ℕ). 13 ∷ n ∷ text) feed) (empty_lines_read false text y.0 y.1)))
    (λ _ none. absurd (none-some x none))
empty_lines_read false (b ∷ text) x e =
    chosen (b == 10) (behind_line lf (empty_lines_from false text)) (if b == 13 then empty_lines_from true text else Some ([], b ∷ text)) (Some x) e
    (λ is_feed here.
    let y = retold_some (λ ends. lf ∷ ends) (empty_lines_from false text) x here in
    let feed : b ≡ 10 = (Decides-eqb b 10).0 is_feed in
    told Blank (b ∷ text) (lf ∷ y.0.0, y.0.1) x y.2
    (blank_more lf (b ∷ text) text y.0.0 y.0.1 (ap (λ (n : ℕ). n ∷ text) feed) (empty_lines_read false text y.0 y.1)))
    (λ no_feed other. chosen (b == 13) (empty_lines_from true text) (Some ([], b ∷ text)) (Some x) other
    (λ is_return here.
    let P : ℕ → Type 0 = λ n. Blank x.0 (n ∷ text) x.1 in
    subst P (sym ((Decides-eqb b 13).0 is_return)) (empty_lines_read true text x here))
    (λ no_return here.
    told Blank (b ∷ text) ([], b ∷ text) x (same_Some _ _ here)
    (refl, ap (λ (v : Bool). v || (b == 10)) no_return ∙ no_feed)))

no_empty_line : (text rest : List ℕ) → text ≡ rest → Stops is_newline rest → empty_lines_from false text ≡ Some ([], rest)
unfolding empty_lines_from
no_empty_line text [] h stops = absurd stops
no_empty_line text (b ∷ rest) h stops =
    let not_either = neither (b == 13) (b == 10) stops in
    ap (empty_lines_from false) h
    ∙ at_false (b == 10) (behind_line lf (empty_lines_from false rest)) (if b == 13 then empty_lines_from true rest else Some ([], b ∷ rest)) not_either.1
    ∙ at_false (b == 13) (empty_lines_from true rest) (Some ([], b ∷ rest)) not_either.0

empty_lines_found : (ends : List LineEnd) (text rest : List ℕ) → Blank ends text rest → empty_lines_from false text ≡ Some (ends, rest)
unfolding empty_lines_from
empty_lines_found [] text rest h = no_empty_line text rest h.0 h.1
empty_lines_found (crlf ∷ ends) text rest h =
    ap (empty_lines_from false) h.0 ∙ ap (behind_line crlf) (empty_lines_found ends (print_blank ends ++ rest) rest (refl, h.1))
empty_lines_found (lf ∷ ends) text rest h =
    ap (empty_lines_from false) h.0 ∙ ap (behind_line lf) (empty_lines_found ends (print_blank ends ++ rest) rest (refl, h.1))

empty_lines_reader : IsReaderOf Blank empty_lines_at
empty_lines_reader = record {
  reads = λ text ends rest h. empty_lines_read false text (ends, rest) h;
  finds = λ text ends rest h. empty_lines_found ends text rest h;
}

-- a word and the byte that stops it

abbrev Before : (ℕ → Bool) → ℕ → Piece (List ℕ)
Before test stop word text rest = AllPass test word × (text ≡ word ++ stop ∷ rest)

bytes_read : (test : ℕ → Bool) (stop : ℕ) (text : List ℕ) (x : List ℕ × List ℕ) → bytes_before test stop text ≡ Some x →
    Before test stop x.0 text x.1
unfolding bytes_before
bytes_read test stop [] x e = absurd (none-some x e)
bytes_read test stop (b ∷ text) x e =
    chosen (test b) (behind_byte b (bytes_before test stop text)) (if b == stop then Some ([], text) else None) (Some x) e
    (λ passes here.
    let y = retold_some (λ word. b ∷ word) (bytes_before test stop text) x here in
    let more = bytes_read test stop text y.0 y.1 in
    told (Before test stop) (b ∷ text) (b ∷ y.0.0, y.0.1) x y.2
    (All-cons (λ v. test v ≡ true) b y.0.0 passes more.0, ap (λ (t : List ℕ). b ∷ t) more.1))
    (λ _ other.
    let parts = cond_some (b == stop) ([], text) x other in
    told (Before test stop) (b ∷ text) ([], text) x parts.1
    (All-nil (λ v. test v ≡ true), ap (λ (n : ℕ). n ∷ text) ((Decides-eqb b stop).0 parts.0)))

bytes_found : (test : ℕ → Bool) (stop : ℕ) → test stop ≡ false → (word text rest : List ℕ) → Before test stop word text rest →
    bytes_before test stop text ≡ Some (word, rest)
unfolding bytes_before
bytes_found test stop fails [] text rest h =
    ap (bytes_before test stop) h.1
    ∙ at_false (test stop) (behind_byte stop (bytes_before test stop rest)) (if stop == stop then Some ([], rest) else None) fails
    ∙ at_true (stop == stop) (Some ([], rest)) None (eq-eqb stop stop refl)
bytes_found test stop fails (b ∷ word) text rest h =
    ap (bytes_before test stop) h.1
    ∙ at_true (test b) (behind_byte b (bytes_before test stop (word ++ stop ∷ rest))) (if b == stop then Some ([], word ++ stop ∷ rest) else None)
    (All-head (λ v. test v ≡ true) b word h.0)
    ∙ ap (behind_byte b) (bytes_found test stop fails word (word ++ stop ∷ rest) rest (All-tail (λ v. test v ≡ true) b word h.0, refl))

bytes_reader : (test : ℕ → Bool) (stop : ℕ) → test stop ≡ false → IsReaderOf (Before test stop) (bytes_before test stop)
bytes_reader test stop fails = record {
  reads = λ text word rest h. bytes_read test stop text (word, rest) h;
  finds = λ text word rest h. bytes_found test stop fails word text rest h;
}

word_reader : (test : ℕ → Bool) (stop : ℕ) → test stop ≡ false → IsReaderOf (Word test stop) (word_before test stop)
word_reader test stop fails =
    restated (λ word text rest. Before test stop word text rest × (is_not_empty word ≡ true)) (Word test stop) (word_before test stop)
    (checked_reader (Before test stop) is_not_empty (bytes_before test stop) (bytes_reader test stop fails))
    (λ word text rest h. ((Decides-ltb 0 (length word)).0 h.1, h.0.0, h.0.1))
    (λ word text rest h. ((h.1, h.2), (Decides-ltb 0 (length word)).1 h.0))

target_reader : IsReaderOf Target target_at
target_reader =
    restated (λ word text rest. Word is_uri_byte 32 word text rest × (is_utf8 word ≡ true)) Target target_at
    (checked_reader (Word is_uri_byte 32) is_utf8 (word_before is_uri_byte 32) (word_reader is_uri_byte 32 refl))
    (λ word text rest h. (h.0, IsUtf8-from_is_utf8 word h.1))
    (λ word text rest h. (h.0, is_utf8-from_IsUtf8 word h.1))

-- the version

behind_reads : (wanted text rest : List ℕ) → behind wanted text ≡ Some rest → text ≡ wanted ++ rest
behind_reads [] text rest e = same_Some text rest e
behind_reads (w ∷ wanted) [] rest e = absurd (none-some rest e)
behind_reads (w ∷ wanted) (b ∷ text) rest e =
    chosen (b == w) (behind wanted text) None (Some rest) e
    (λ same here.
    ap (λ (n : ℕ). n ∷ text) ((Decides-eqb b w).0 same) ∙ ap (λ (t : List ℕ). w ∷ t) (behind_reads wanted text rest here))
    (λ _ none. absurd (none-some rest none))

abbrev Minor : ℕ → (text rest : List ℕ) → Type 0
Minor minor text rest = (minor ≤ 1) × (text ≡ (48 + minor) ∷ rest)

minor_reads : (o : Option (List ℕ)) (x : ℕ × List ℕ) → minor_at o ≡ Some x → (text : List ℕ) × (o ≡ Some text) × Minor x.0 text x.1
minor_reads None x e = absurd (none-some x e)
minor_reads (Some []) x e = absurd (none-some x e)
minor_reads (Some (b ∷ text)) x e = (
  b ∷ text,
  refl,
  chosen (b == 48) (Some (0, text)) (if b == 49 then Some (1, text) else None) (Some x) e
      (λ is_zero here.
      told Minor (b ∷ text) (0, text) x (same_Some _ _ here) (omega arith, ap (λ (n : ℕ). n ∷ text) ((Decides-eqb b 48).0 is_zero)))
      (λ _ other.
      let parts = cond_some (b == 49) (1, text) x other in
      told Minor (b ∷ text) (1, text) x parts.1 (omega arith, ap (λ (n : ℕ). n ∷ text) ((Decides-eqb b 49).0 parts.0))),
)

version_reads : (text : List ℕ) (x : ℕ × List ℕ) → version_at text ≡ Some x → Version x.0 text x.1
version_reads text x e =
    let y = minor_reads (behind (codes "HTTP/1.") text) x e in
    (y.2.0, behind_reads (codes "HTTP/1.") text y.0 y.1 ∙ ap (λ (t : List ℕ). codes "HTTP/1." ++ t) y.2.1)

version_finds : (minor : ℕ) (text rest : List ℕ) → Version minor text rest → version_at text ≡ Some (minor, rest)
version_finds zero text rest h = ap version_at h.1
version_finds (suc zero) text rest h = ap version_at h.1
version_finds (suc (suc minor)) text rest h = let few = h.0 in absurd (omega arith)

version_reader : IsReaderOf Version version_at
version_reader = record {
  reads = λ text minor rest h. version_reads text (minor, rest) h;
  finds = λ text minor rest h. version_finds minor text rest h;
}

-- a value to the end of its line

value_reads : (text : List ℕ) (x : (List ℕ × LineEnd) × List ℕ) → value_at text ≡ Some x → Text x.0 text x.1
unfolding value_at
value_reads [] x e = absurd (none-some x e)
value_reads (b ∷ text) x e =
    chosen (is_value_byte b) (retold (λ t. (b ∷ t.0, t.1)) (value_at text)) (retold (λ e. ([], e)) (line_end_at (b ∷ text))) (Some x) e
    (λ passes here.
    let y = retold_some (λ t. (b ∷ t.0, t.1)) (value_at text) x here in
    let more = value_reads text y.0 y.1 in
    told Text (b ∷ text) ((b ∷ y.0.0.0, y.0.0.1), y.0.1) x y.2
    (All-cons (λ v. is_value_byte v ≡ true) b y.0.0.0 passes more.0, ap (λ (t : List ℕ). b ∷ t) more.1))
    (λ _ here.
    let y = retold_some (λ e. ([], e)) (line_end_at (b ∷ text)) x here in
    told Text (b ∷ text) (([], y.0.0), y.0.1) x y.2
    (All-nil (λ v. is_value_byte v ≡ true), line_end_reads (b ∷ text) y.0 y.1))

value_found : (value : List ℕ) (e : LineEnd) (text rest : List ℕ) → Text (value, e) text rest → value_at text ≡ Some ((value, e), rest)
unfolding value_at
value_found [] crlf text rest h = ap value_at h.1
value_found [] lf text rest h = ap value_at h.1
value_found (b ∷ value) e text rest h =
    let more : List ℕ = value ++ (print_end e ++ rest) in
    ap value_at h.1
    ∙ at_true (is_value_byte b) (retold (λ t. (b ∷ t.0, t.1)) (value_at more)) (retold (λ e. ([], e)) (line_end_at (b ∷ more)))
    (All-head (λ v. is_value_byte v ≡ true) b value h.0)
    ∙ ap (retold (λ t. (b ∷ t.0, t.1))) (value_found value e more rest (All-tail (λ v. is_value_byte v ≡ true) b value h.0, refl))

value_reader : IsReaderOf Text value_at
value_reader = record {
  reads = λ text t rest h. value_reads text (t, rest) h;
  finds = λ text t rest h. value_found t.0 t.1 text rest h;
}

-- a field line

field_made : (t : List ℕ × (List ℕ × LineEnd)) (text rest : List ℕ) → Then (Word is_token_byte 58) Text t text rest → FieldLine (field_of t) text rest
field_made t text rest x = (
  record { name = (x.1.0, x.1.1); raw = x.2.0 },
  x.1.2 ∙ ap (λ (m : List ℕ). t.0 ++ 58 ∷ m) x.2.1 ∙ sym (print_field-append (field_of t) rest),
)

field_reader : IsReaderOf FieldLine field_at
field_reader =
    retold_reader (Then (Word is_token_byte 58) Text) FieldLine field_of (λ f. (f.name, (f.raw, f.end)))
    (in_turn (word_before is_token_byte 58) value_at)
    (in_turn_reader (Word is_token_byte 58) Text (word_before is_token_byte 58) value_at (word_reader is_token_byte 58 colon_ends_token) value_reader)
    field_made FieldLine_parts (λ f. refl)

-- a section

section_end : (lines : ℕ) (e : LineEnd) (text rest : List ℕ) → Newline e text rest → SectionOfAtMost lines ([], e) text rest
section_end lines e text rest h = ((All-nil IsField, h), omega arith)

regroup : (a b c r : List ℕ) → a ++ ((b ++ c) ++ r) ≡ ((a ++ b) ++ c) ++ r
regroup a b c r = simp append_assoc

section_more : (lines : ℕ) (f : Field) (fields : List Field) (last : LineEnd) (text middle rest : List ℕ) →
    FieldLine f text middle → SectionOfAtMost lines (fields, last) middle rest → SectionOfAtMost (suc lines) (f ∷ fields, last) text rest
section_more lines f fields last text middle rest line more =
    let few : length fields ≤ lines = more.1 in (
      (
        All-cons IsField f fields line.0 more.0.0,
        line.1 ∙ ap (λ (t : List ℕ). print_field f ++ t) more.0.1
            ∙ regroup (print_field f) (flat_map print_field fields) (print_end last) rest,
      ),
      omega arith,
    )

section_less : (lines : ℕ) (f : Field) (fields : List Field) (last : LineEnd) (text rest : List ℕ) →
    SectionOfAtMost (suc lines) (f ∷ fields, last) text rest →
    Then FieldLine (SectionOfAtMost lines) (f, (fields, last)) text rest
section_less lines f fields last text rest h =
    let few : suc (length fields) ≤ suc lines = h.1 in ((
      print_section fields last ++ rest,
      (All-head IsField f fields h.0.0, h.0.1 ∙ sym (regroup (print_field f) (flat_map print_field fields) (print_end last) rest)),
      ((All-tail IsField f fields h.0.0, refl), omega arith),
    ))

section_step_reads : (lines : ℕ) (again : Reader (List Field × LineEnd)) → IsReaderOf (SectionOfAtMost lines) again →
    (text : List ℕ) (o : Option (LineEnd × List ℕ)) (x : (List Field × LineEnd) × List ℕ) → line_end_at text ≡ o → section_step o text again ≡ Some x →
    SectionOfAtMost (suc lines) x.0 text x.1
section_step_reads lines again r text (Some e) x was h =
    told (SectionOfAtMost (suc lines)) text (([], e.0), e.1) x (same_Some _ _ h)
    (section_end (suc lines) e.0 text e.1 (line_end_reads text e was))
section_step_reads lines again r text None x was h =
    let y = retold_some with_field (in_turn field_at again text) x h in
    let z = (in_turn_reader FieldLine (SectionOfAtMost lines) field_at again field_reader r).reads text y.0.0 y.0.1 y.1 in
    told (SectionOfAtMost (suc lines)) text (with_field y.0.0, y.0.1) x y.2
    (section_more lines y.0.0.0 y.0.0.1.0 y.0.0.1.1 text z.0 y.0.1 z.1 z.2)

section_step_finds : (lines : ℕ) (again : Reader (List Field × LineEnd)) → IsReaderOf (SectionOfAtMost lines) again →
    (fields : List Field) (last : LineEnd) (text rest : List ℕ) → SectionOfAtMost (suc lines) (fields, last) text rest →
    section_step (line_end_at text) text again ≡ Some ((fields, last), rest)
section_step_finds lines again r [] last text rest h =
    ap (λ (o : Option (LineEnd × List ℕ)). section_step o text again) (line_end_finds last text rest h.0.1)
section_step_finds lines again r (f ∷ fields) last text rest h =
    let parts = section_less lines f fields last text rest h in
    ap (λ (o : Option (LineEnd × List ℕ)). section_step o text again) (no_line_end text (Stops-FieldLine f text parts.0 parts.1))
    ∙ ap (retold with_field)
    ((in_turn_reader FieldLine (SectionOfAtMost lines) field_at again field_reader r).finds text (f, (fields, last)) rest parts)

section_zero : (s : List Field × LineEnd) (text rest : List ℕ) → SectionOfAtMost 0 s text rest → (s.0 ≡ []) × Newline s.1 text rest
section_zero s = go s.0 s.1
  where
    go : (fields : List Field) (last : LineEnd) (text rest : List ℕ) → SectionOfAtMost 0 (fields, last) text rest → (fields ≡ []) × Newline last text rest
    go [] last text rest h = (refl, h.0.1)
    go (f ∷ fields) last text rest h = let few : suc (length fields) ≤ 0 = h.1 in absurd (omega arith)

section_reader : (lines : ℕ) → IsReaderOf (SectionOfAtMost lines) (section_at lines)
unfolding section_at
section_reader zero = record {
  reads = λ text s rest h.
      let y = retold_some (λ e. ([], e)) (line_end_at text) (s, rest) h in
      told (SectionOfAtMost 0) text (([], y.0.0), y.0.1) (s, rest) y.2 (section_end 0 y.0.0 text y.0.1 (line_end_reads text y.0 y.1));
  finds = λ text s rest h.
      let parts = section_zero s text rest h in
      ap (retold (λ e. ([], e))) (line_end_finds s.1 text rest parts.1)
      ∙ ap (λ (fields : List Field). let o : Option ((List Field × LineEnd) × List ℕ) = Some ((fields, s.1), rest) in o) (sym parts.0);
}
section_reader (suc lines) = record {
  reads = λ text s rest h. section_step_reads lines (section_at lines) (section_reader lines) text (line_end_at text) (s, rest) refl h;
  finds = λ text s rest h. section_step_finds lines (section_at lines) (section_reader lines) s.0 s.1 text rest h;
}

-- a head

request_line_reader : IsReaderOf RequestStart request_line_at
request_line_reader =
    in_turn_reader Blank (Then Method (Then Target (Then Version Newline))) empty_lines_at _ empty_lines_reader
    (in_turn_reader Method (Then Target (Then Version Newline)) method_at _ (word_reader is_token_byte 32 space_ends_token)
    (in_turn_reader Target (Then Version Newline) target_at _ target_reader
    (in_turn_reader Version Newline version_at line_end_at version_reader line_end_reader)))

pub head_reader : (lines : ℕ) → IsReaderOf (λ h text rest. ReadsRequest text h rest × (length h.fields ≤ lines)) (head_at lines)
unfolding head_at
head_reader lines =
    retold_reader (Then RequestStart (SectionOfAtMost lines)) (λ h text rest. ReadsRequest text h rest × (length h.fields ≤ lines)) head_of request_tree
    (in_turn request_line_at (section_at lines))
    (in_turn_reader RequestStart (SectionOfAtMost lines) request_line_at (section_at lines) request_line_reader (section_reader lines))
    (λ t text rest x. (request_from_pieces text t rest (x.0, x.1, x.2.0), x.2.1))
    (λ h text rest x. let y = request_pieces text h rest x.0 in (y.0, y.1, (y.2, x.1)))
    (λ h. refl)
