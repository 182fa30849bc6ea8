-- How a connection goes on from one standing to another, over plain lists.
use Rattle.std.proofs.Common.{◌≡◌, ℕ, ◌<◌, ◌≤◌, Bool, true, false, List, [], ◌∷◌, ◌++◌, length, take, drop, Some, None, if◌then◌else◌, nat_le, refl, ap, sym, ◌∙◌, arith, append_assoc, append-nil, length-append}
use Rattle.std.proofs.lemmas.Bool.{lt-leb}
use Rattle.httparse.specs.Grammar.{RequestHead}
use Rattle.http_items.specs.declared.refusals.Refusal.{Refusal}
use Rattle.http_items.specs.declared.refusals.Refusal.TheVariants.{BadHead, CutBody}
use Rattle.http_items.specs.Refusals.{number_of}
use Rattle.http_items.specs.Heads.{head_in, most_head}
use Rattle.http_items.specs.Headings.{heading_of, Due, due_to_head, Opening, Refused, Awaits, opening_of}
use Rattle.http_items.specs.Items.{Heard, Faulty, keeps, heard, Front, Nothing, Gives, are_pairs, gathered, opened, front, onward, items}
use Rattle.http_items.specs.Standings.{Standing, Reading, Gathering, Over, Failed, behind_item, items_from, Goes, Opens, IsQuiet}
use Rattle.http_items.proofs.HeadLaws.{at_false}
use Rattle.http_items.proofs.FrontLaws.{head_in_more, head_in_at_limit}
use Rattle.http_items.proofs.ItemLaws.{items_step, front_without, front_behind, no_head_full, gathered_more}

-- nothing has come yet
pub goes_nowhere : (s : Standing) (bytes : List ℕ) → Goes s bytes [] s bytes
goes_nowhere s bytes = record { same = λ more ended. refl }

-- one way behind another
pub goes_on : (a b c : Standing) (bytes left rest : List ℕ) (given later : List Heard) → Goes a bytes given b left → Goes b left later c rest →
    Goes a bytes (given ++ later) c rest
goes_on a b c bytes left rest given later one other = record {
  same = λ more ended.
      one.same more ended ∙ ap (λ (t : List Heard). given ++ t) (other.same more ended)
      ∙ sym (append_assoc given later (items_from c (rest ++ more) ended));
}

-- what is in front of other bytes goes on in front of them
pub goes_within : (a b : Standing) (bytes beyond : List ℕ) (given : List Heard) (left : List ℕ) → Goes a bytes given b left →
    Goes a (bytes ++ beyond) given b (left ++ beyond)
goes_within a b bytes beyond given left goes = record {
  same = λ more ended.
      ap (λ (t : List ℕ). items_from a t ended) (append_assoc bytes beyond more)
      ∙ goes.same (beyond ++ more) ended
      ∙ ap (λ (t : List ℕ). given ++ items_from b t ended) (sym (append_assoc left beyond more));
}

-- an item that closes
onward_closed : (item : Heard) (rest : List ℕ) (again : List ℕ → List Heard) → keeps item ≡ false → onward (Gives item rest) again ≡ item ∷ []
onward_closed item rest again closes = ap (λ (t : List Heard). item ∷ t) (at_false (keeps item) (again rest) [] closes)

items_refused : (text more : List ℕ) (ended : Bool) (fault : Heard) → keeps fault ≡ false → front (text ++ more) ended ≡ Gives fault [] →
    items (text ++ more) ended ≡ fault ∷ []
items_refused text more ended fault closes is =
    items_step (text ++ more) ended ∙ ap (λ (f : Front). onward f (λ r. items r ended)) is ∙ onward_closed fault [] (λ r. items r ended) closes

-- bytes of a head whose end has not come
pub reads_on : (held rest : List ℕ) → Goes (Reading held) rest [] (Reading (held ++ rest)) []
reads_on held rest = record { same = λ more ended. ap (λ (t : List ℕ). items t ended) (sym (append_assoc held rest more)) }

-- so many of them that no head can come
pub reads_full : (held rest : List ℕ) (left : List ℕ) → head_in (held ++ rest) ≡ None → most_head ≤ length (held ++ rest) →
    Goes (Reading held) rest (Faulty (number_of BadHead) false false ∷ []) Over left
reads_full held rest left none full = record {
  same = λ more ended.
      ap (λ (t : List ℕ). items t ended) (sym (append_assoc held rest more))
      ∙ items_refused (held ++ rest) more ended (Faulty (number_of BadHead) false false) refl
      (front_without ((held ++ rest) ++ more) ended (head_in_at_limit (held ++ rest) more full none)
      ∙ no_head_full ((held ++ rest) ++ more) ended (omega (arith, length-append (held ++ rest) more)));
}

-- a head that is refused at once
pub reads_refused : (held rest : List ℕ) (h : RequestHead) (behind : List ℕ) (refusal : Refusal) (head : Bool) (left : List ℕ) →
    head_in (held ++ rest) ≡ Some (h, behind) → opening_of (heading_of h) ≡ Refused refusal head →
    Goes (Reading held) rest (Faulty (number_of refusal) head false ∷ []) Over left
reads_refused held rest h behind refusal head left found is = record {
  same = λ more ended.
      ap (λ (t : List ℕ). items t ended) (sym (append_assoc held rest more))
      ∙ items_refused (held ++ rest) more ended (Faulty (number_of refusal) head false) refl
      (front_behind ((held ++ rest) ++ more) ended h (behind ++ more) (head_in_more (held ++ rest) h behind more found)
      ∙ ap (λ (o : Opening). opened o (behind ++ more) ended) is);
}

-- a head whose body is to come
pub reads_head : (held rest : List ℕ) (h : RequestHead) (behind : List ℕ) (due : Due) (size : ℕ) →
    head_in (held ++ rest) ≡ Some (h, behind) → opening_of (heading_of h) ≡ Awaits due size →
    Goes (Reading held) rest [] (Gathering due size []) behind
reads_head held rest h behind due size found is = record {
  same = λ more ended.
      ap (λ (t : List ℕ). items t ended) (sym (append_assoc held rest more))
      ∙ items_step ((held ++ rest) ++ more) ended
      ∙ ap (λ (f : Front). onward f (λ r. items r ended))
      (front_behind ((held ++ rest) ++ more) ended h (behind ++ more) (head_in_more (held ++ rest) h behind more found)
      ∙ ap (λ (o : Opening). opened o (behind ++ more) ended) is);
}

-- a head, and what came of the bytes behind it
pub reads_opening : (held rest : List ℕ) (h : RequestHead) (behind : List ℕ) (o : Opening) (given : List Heard) (new : Standing) (left : List ℕ) →
    head_in (held ++ rest) ≡ Some (h, behind) → opening_of (heading_of h) ≡ o → Opens o behind given new left →
    Goes (Reading held) rest given new left
reads_opening held rest h behind (Refused refusal head) given new left found is opens = record {
  same = λ more ended.
      (reads_refused held rest h behind refusal head left found is).same more ended
      ∙ sym (ap (λ (t : List Heard). t ++ items_from new (left ++ more) ended) opens.0
      ∙ ap (λ (s : Standing). (Faulty (number_of refusal) head false ∷ []) ++ items_from s (left ++ more) ended) opens.1);
}
reads_opening held rest h behind (Awaits due size) given new left found is opens =
    goes_on (Reading held) (Gathering due size []) new rest behind left [] given (reads_head held rest h behind due size found is) opens

-- so many bytes that no head can come, and others behind them
pub reads_beyond : (held taken beyond : List ℕ) (left : List ℕ) → head_in (held ++ taken) ≡ None → most_head ≤ length (held ++ taken) →
    Goes (Reading held) (taken ++ beyond) (Faulty (number_of BadHead) false false ∷ []) Over left
reads_beyond held taken beyond left none full =
    let regroup : (held ++ taken) ++ beyond ≡ held ++ (taken ++ beyond) = append_assoc held taken beyond in
    reads_full held (taken ++ beyond) left
    (ap head_in (sym regroup) ∙ head_in_at_limit (held ++ taken) beyond full none)
    (omega (arith, ap (λ (t : List ℕ). length t) regroup, length-append (held ++ taken) beyond))

-- bytes of a body whose end has not come
pub gathers_on : (due : Due) (size : ℕ) (got rest : List ℕ) → Goes (Gathering due size got) rest [] (Gathering due size (got ++ rest)) []
gathers_on due size got rest = record {
  same = λ more ended.
      ap (λ (t : List ℕ). onward (gathered due size t ended) (λ r. items r ended)) (sym (append_assoc got rest more));
}

items_behind : (keep : Bool) (more : List ℕ) (ended : Bool) → (if keep then items more ended else []) ≡ items_from (behind_item keep) more ended
items_behind true more ended = refl
items_behind false more ended = refl

-- the end of a body, and what is behind it
pub gathers_all : (due : Due) (size : ℕ) (got rest behind : List ℕ) (keep : Bool) → length (got ++ rest) ≡ size → keeps (heard due (got ++ rest)) ≡ keep →
    Goes (Gathering due size got) (rest ++ behind) (heard due (got ++ rest) ∷ []) (behind_item keep) behind
gathers_all due size got rest behind keep whole is_kept = record {
  same = λ more ended.
      let body : List ℕ = got ++ rest in
      let fits : size ≤ length body = omega arith in
      ap (λ (t : List ℕ). onward (gathered due size t ended) (λ r. items r ended)) (regroup got rest behind more)
      ∙ ap (λ (f : Front). onward f (λ r. items r ended))
      (gathered_more due size body (behind ++ more) ended fits
      ∙ ap (λ (n : ℕ). Gives (heard due (take n body)) (drop n body ++ (behind ++ more))) (sym whole)
      ∙ ap (λ (t : List ℕ). Gives (heard due t) (drop (length body) body ++ (behind ++ more))) (take_all body)
      ∙ ap (λ (t : List ℕ). Gives (heard due body) (t ++ (behind ++ more))) (drop_all body))
      ∙ ap (λ (t : List Heard). heard due body ∷ t)
      (ap (λ (b : Bool). if b then items (behind ++ more) ended else []) is_kept ∙ items_behind keep (behind ++ more) ended);
}
  where
    regroup : (a b c d : List ℕ) → a ++ ((b ++ c) ++ d) ≡ (a ++ b) ++ (c ++ d)
    regroup a b c d = simp append_assoc

    take_all : (t : List ℕ) → take (length t) t ≡ t
    take_all [] = refl
    take_all (b ∷ t) = ap (λ (l : List ℕ). b ∷ l) (take_all t)

    drop_all : (t : List ℕ) → drop (length t) t ≡ []
    drop_all [] = refl
    drop_all (b ∷ t) = drop_all t

-- nothing is due where all is quiet
pub quiet : (s : Standing) → IsQuiet s → items_from s [] false ≡ []
quiet (Reading held) h =
    ap (λ (t : List ℕ). items t false) (append-nil held) ∙ items_step held false
    ∙ ap (λ (f : Front). onward f (λ r. items r false))
    (front_without held false h.0
    ∙ at_false (nat_le most_head (length held)) (Gives (Faulty (number_of BadHead) false false) []) Nothing (lt-leb most_head (length held) h.1))
quiet (Gathering due size got) h =
    ap (λ (t : List ℕ). onward (gathered due size t false) (λ r. items r false)) (append-nil got)
    ∙ ap (λ (f : Front). onward f (λ r. items r false))
    (at_false (nat_le size (length got)) (Gives (heard due (take size got)) (drop size got)) Nothing (lt-leb size (length got) h))
quiet Over h = refl
quiet Failed h = refl

-- so what was given on the way there is all that is due
pub all_given : (a b : Standing) (bytes : List ℕ) (given : List Heard) → Goes a bytes given b [] → IsQuiet b → given ≡ items_from a bytes false
all_given a b bytes given goes h =
    sym (ap (λ (t : List ℕ). items_from a t false) (sym (append-nil bytes)) ∙ goes.same [] false ∙ ap (λ (t : List Heard). given ++ t) (quiet b h) ∙ append-nil given)

-- the end of the stream
pub ends_reading : (held : List ℕ) (fault : List Heard) → IsQuiet (Reading held) →
    fault ≡ (if are_pairs held then [] else Faulty (number_of BadHead) false false ∷ []) → fault ≡ items_from (Reading held) [] true
ends_reading held fault h is =
    is ∙ sym (ap (λ (t : List ℕ). items t true) (append-nil held) ∙ items_step held true
    ∙ ap (λ (f : Front). onward f (λ r. items r true))
    (front_without held true h.0
    ∙ at_false (nat_le most_head (length held)) (Gives (Faulty (number_of BadHead) false false) [])
    (if are_pairs held then Nothing else Gives (Faulty (number_of BadHead) false false) []) (lt-leb most_head (length held) h.1))
    ∙ last (are_pairs held))
  where
    last : (p : Bool) → onward (if p then Nothing else Gives (Faulty (number_of BadHead) false false) []) (λ r. items r true) ≡ (if p then [] else Faulty (number_of BadHead) false false ∷ [])
    last true = refl
    last false = refl

pub ends_gathering : (due : Due) (size : ℕ) (got : List ℕ) → length got < size →
    Faulty (number_of CutBody) (due_to_head due) false ∷ [] ≡ items_from (Gathering due size got) [] true
ends_gathering due size got h =
    sym (ap (λ (t : List ℕ). onward (gathered due size t true) (λ r. items r true)) (append-nil got)
    ∙ ap (λ (f : Front). onward f (λ r. items r true))
    (at_false (nat_le size (length got)) (Gives (heard due (take size got)) (drop size got))
    (Gives (Faulty (number_of CutBody) (due_to_head due) false) []) (lt-leb size (length got) h)))
