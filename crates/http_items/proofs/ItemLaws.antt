-- The items one after another, and those of the beginning of a stream.
use Rattle.std.proofs.Common.{◌≡◌, ℕ, zero, suc, ◌<◌, ◌≤◌, ◌⊎◌, inl, inr, Bool, true, false, List, [], ◌∷◌, ◌++◌, length, take, drop, Option, Some, None, if◌then◌else◌, nat_le, refl, ap, sym, ◌∙◌, arith, length-append, length-drop}
use Rattle.std.proofs.lemmas.Bool.{leb-true, le-leb}
use Rattle.std.proofs.lemmas.List.{take-append-le, drop-append-le}
use Rattle.httparse.specs.Grammar.{RequestHead, print_request}
use Rattle.http_items.specs.declared.refusals.Refusal.TheVariants.{BadHead, CutBody}
use Rattle.http_items.specs.Refusals.{number_of}
use Rattle.http_items.specs.Heads.{head_in, most_head}
use Rattle.http_items.specs.Headings.{heading_of, Due, due_to_head, Opening, Refused, Awaits, opening_of}
use Rattle.http_items.specs.Items.{Heard, Faulty, keeps, heard, Front, Nothing, Gives, are_pairs, no_head, gathered, opened, front_with, front, onward, items_upto, items, BeginsWith}
use Rattle.http_items.proofs.ReaderLaws.{chosen}
use Rattle.http_items.proofs.HeadLaws.{at_true}
use Rattle.http_items.proofs.FrontLaws.{none_or_some, head_in_more, head_in_text, head_in_at_limit, head_not_empty}

gives_parts : (a b : Heard) (r q : List ℕ) → Gives a r ≡ Gives b q → (a ≡ b) × (r ≡ q)
gives_parts a b r q e = (cc, cc)

gives_none : (item : Heard) (rest : List ℕ) → Nothing ≡ Gives item rest → ⊥
gives_none item rest e = cc

-- each item has a byte at least

no_head_left : (text : List ℕ) (ended : Bool) (item : Heard) (rest : List ℕ) → no_head text ended ≡ Gives item rest → rest ≡ []
no_head_left text ended item rest e =
    let fault : Heard = Faulty (number_of BadHead) false false in
    chosen (nat_le most_head (length text)) (Gives fault []) (if ended then (if are_pairs text then Nothing else Gives fault []) else Nothing) (Gives item rest) e
    (λ _ here. sym (gives_parts fault item [] rest here).1)
    (λ _ other. chosen ended (if are_pairs text then Nothing else Gives fault []) Nothing (Gives item rest) other
    (λ _ at_end. chosen (are_pairs text) Nothing (Gives fault []) (Gives item rest) at_end
    (λ _ none. absurd (gives_none item rest none))
    (λ _ here. sym (gives_parts fault item [] rest here).1))
    (λ _ none. absurd (gives_none item rest none)))

gathered_left : (due : Due) (size : ℕ) (text : List ℕ) (ended : Bool) (item : Heard) (rest : List ℕ) → gathered due size text ended ≡ Gives item rest →
    length rest ≤ length text
gathered_left due size text ended item rest e =
    let fault : Heard = Faulty (number_of CutBody) (due_to_head due) false in
    chosen (nat_le size (length text)) (Gives (heard due (take size text)) (drop size text)) (if ended then Gives fault [] else Nothing) (Gives item rest) e
    (λ _ here.
    let same = ap (λ (t : List ℕ). length t) (gives_parts _ item (drop size text) rest here).1 in
    omega (arith, length-drop size text))
    (λ _ other. chosen ended (Gives fault []) Nothing (Gives item rest) other
    (λ _ here. let same = ap (λ (t : List ℕ). length t) (gives_parts fault item [] rest here).1 in omega arith)
    (λ _ none. absurd (gives_none item rest none)))

opened_left : (o : Opening) (text : List ℕ) (ended : Bool) (item : Heard) (rest : List ℕ) → opened o text ended ≡ Gives item rest → length rest ≤ length text
opened_left (Refused refusal head) text ended item rest e =
    let same = ap (λ (t : List ℕ). length t) (gives_parts _ item [] rest e).1 in omega arith
opened_left (Awaits due size) text ended item rest e = gathered_left due size text ended item rest e

front_of_nothing : (ended : Bool) → front [] ended ≡ Nothing
front_of_nothing ended = elim (none_or_some (head_in [])) [
  | inl none ↦ ap (λ (o : Option (RequestHead × List ℕ)). front_with [] o ended) none ∙ at_end ended
  | inr found ↦
      let text = ap (λ (t : List ℕ). length t) (head_in_text [] found.0.0 found.0.1 found.1) ∙ length-append (print_request found.0.0) found.0.1 in
      let some = head_not_empty found.0.0 in
      absurd (omega arith)
]
  where
    at_end : (ended : Bool) → no_head [] ended ≡ Nothing
    at_end true = refl
    at_end false = refl

front_shorter : (text : List ℕ) (ended : Bool) (item : Heard) (rest : List ℕ) → front text ended ≡ Gives item rest → length rest < length text
front_shorter [] ended item rest e = absurd (gives_none item rest (sym (front_of_nothing ended) ∙ e))
front_shorter (b ∷ text) ended item rest e = elim (none_or_some (head_in (b ∷ text))) [
  | inl none ↦
      let left = ap (λ (t : List ℕ). length t)
      (no_head_left (b ∷ text) ended item rest (ap (λ (o : Option (RequestHead × List ℕ)). front_with (b ∷ text) o ended) (sym none) ∙ e)) in
      omega arith
  | inr found ↦
      let left = opened_left (opening_of (heading_of found.0.0)) found.0.1 ended item rest
      (ap (λ (o : Option (RequestHead × List ℕ)). front_with (b ∷ text) o ended) (sym found.1) ∙ e) in
      let sizes = ap (λ (t : List ℕ). length t) (head_in_text (b ∷ text) found.0.0 found.0.1 found.1) ∙ length-append (print_request found.0.0) found.0.1 in
      let some = head_not_empty found.0.0 in
      omega arith
]

-- so as many items as bytes are enough

onward_same : (f : Front) (g h : List ℕ → List Heard) → ((item : Heard) (rest : List ℕ) → f ≡ Gives item rest → g rest ≡ h rest) → onward f g ≡ onward f h
onward_same Nothing g h same = refl
onward_same (Gives item rest) g h same = ap (λ (all : List Heard). item ∷ (if keeps item then all else [])) (same item rest refl)

enough : (n m : ℕ) (text : List ℕ) (ended : Bool) → length text ≤ n → length text ≤ m → items_upto n text ended ≡ items_upto m text ended
unfolding items_upto
enough zero zero text ended _ _ = refl
enough zero (suc m) [] ended _ _ = sym (ap (λ (f : Front). onward f (λ rest. items_upto m rest ended)) (front_of_nothing ended))
enough zero (suc m) (b ∷ text) ended few _ = absurd (omega arith)
enough (suc n) zero [] ended _ _ = ap (λ (f : Front). onward f (λ rest. items_upto n rest ended)) (front_of_nothing ended)
enough (suc n) zero (b ∷ text) ended _ few = absurd (omega arith)
enough (suc n) (suc m) text ended one other =
    onward_same (front text ended) (λ rest. items_upto n rest ended) (λ rest. items_upto m rest ended)
    (λ item rest e. let less = front_shorter text ended item rest e in enough n m rest ended (omega arith) (omega arith))

-- the items are the first one and those of the bytes behind it
pub items_step : (text : List ℕ) (ended : Bool) → items text ended ≡ onward (front text ended) (λ rest. items rest ended)
unfolding items items_upto
items_step [] ended = sym (ap (λ (f : Front). onward f (λ rest. items rest ended)) (front_of_nothing ended))
items_step (b ∷ text) ended =
    onward_same (front (b ∷ text) ended) (λ rest. items_upto (length text) rest ended) (λ rest. items rest ended)
    (λ item rest e. let less = front_shorter (b ∷ text) ended item rest e in enough (length text) (length rest) rest ended (omega arith) (omega arith))

-- an item that is there stays with bytes behind it

abbrev pub Stays : Front → (item : Heard) (rest more : List ℕ) → Type 0
Stays f item rest more = (left : List ℕ) × (f ≡ Gives item left) × (keeps item ≡ true → left ≡ rest ++ more)

closing : (f : Front) (fault item : Heard) (rest more : List ℕ) → keeps fault ≡ false → f ≡ Gives fault [] → Gives fault [] ≡ Gives item rest → Stays f item rest more
closing f fault item rest more closes is e =
    let parts = gives_parts fault item [] rest e in
    ([], is ∙ ap (λ (i : Heard). Gives i []) parts.0, λ keep. let bad : ⊥ = cc in absurd bad)

no_head_stays : (text more : List ℕ) (ended : Bool) (item : Heard) (rest : List ℕ) → no_head text false ≡ Gives item rest →
    (most_head ≤ length text) × ((f : Front) → f ≡ Gives (Faulty (number_of BadHead) false false) [] → Stays f item rest more)
no_head_stays text more ended item rest e =
    let fault : Heard = Faulty (number_of BadHead) false false in
    chosen (nat_le most_head (length text)) (Gives fault []) Nothing (Gives item rest) e
    (λ full here. (leb-true most_head (length text) full, λ f is. closing f fault item rest more refl is here))
    (λ _ none. absurd (gives_none item rest none))

pub no_head_full : (text : List ℕ) (ended : Bool) → most_head ≤ length text → no_head text ended ≡ Gives (Faulty (number_of BadHead) false false) []
no_head_full text ended full =
    let fault : Heard = Faulty (number_of BadHead) false false in
    at_true (nat_le most_head (length text)) (Gives fault []) (if ended then (if are_pairs text then Nothing else Gives fault []) else Nothing)
    (le-leb most_head (length text) full)

pub gathered_whole : (due : Due) (size : ℕ) (text : List ℕ) (ended : Bool) → size ≤ length text → gathered due size text ended ≡ Gives (heard due (take size text)) (drop size text)
gathered_whole due size text ended fits =
    at_true (nat_le size (length text)) (Gives (heard due (take size text)) (drop size text))
    (if ended then Gives (Faulty (number_of CutBody) (due_to_head due) false) [] else Nothing) (le-leb size (length text) fits)

pub gathered_more : (due : Due) (size : ℕ) (text more : List ℕ) (ended : Bool) → size ≤ length text →
    gathered due size (text ++ more) ended ≡ Gives (heard due (take size text)) (drop size text ++ more)
gathered_more due size text more ended fits =
    let longer : size ≤ length (text ++ more) = omega (arith, length-append text more) in
    gathered_whole due size (text ++ more) ended longer
    ∙ ap (λ (b : List ℕ). Gives (heard due b) (drop size (text ++ more))) (take-append-le size text more fits)
    ∙ ap (λ (r : List ℕ). Gives (heard due (take size text)) r) (drop-append-le size text more fits)

gathered_stays : (due : Due) (size : ℕ) (text more : List ℕ) (ended : Bool) (item : Heard) (rest : List ℕ) → gathered due size text false ≡ Gives item rest →
    Stays (gathered due size (text ++ more) ended) item rest more
gathered_stays due size text more ended item rest e =
    chosen (nat_le size (length text)) (Gives (heard due (take size text)) (drop size text)) Nothing (Gives item rest) e
    (λ fits here.
    let parts = gives_parts (heard due (take size text)) item (drop size text) rest here in (
      drop size text ++ more,
      gathered_more due size text more ended (leb-true size (length text) fits) ∙ ap (λ (i : Heard). Gives i (drop size text ++ more)) parts.0,
      λ _. ap (λ (r : List ℕ). r ++ more) parts.1,
    ))
    (λ _ none. absurd (gives_none item rest none))

opened_stays : (o : Opening) (text more : List ℕ) (ended : Bool) (item : Heard) (rest : List ℕ) → opened o text false ≡ Gives item rest →
    Stays (opened o (text ++ more) ended) item rest more
opened_stays (Refused refusal head) text more ended item rest e =
    let fault : Heard = Faulty (number_of refusal) head false in closing (Gives fault []) fault item rest more refl refl e
opened_stays (Awaits due size) text more ended item rest e = gathered_stays due size text more ended item rest e

-- the same of a front, from its head
pub front_without : (text : List ℕ) (ended : Bool) → head_in text ≡ None → front text ended ≡ no_head text ended
front_without text ended none = ap (λ (o : Option (RequestHead × List ℕ)). front_with text o ended) none

pub front_behind : (text : List ℕ) (ended : Bool) (h : RequestHead) (rest : List ℕ) → head_in text ≡ Some (h, rest) →
    front text ended ≡ opened (opening_of (heading_of h)) rest ended
front_behind text ended h rest found = ap (λ (o : Option (RequestHead × List ℕ)). front_with text o ended) found

stays_at : (f g : Front) (item : Heard) (rest more : List ℕ) → f ≡ g → Stays g item rest more → Stays f item rest more
stays_at f g item rest more e stays = (stays.0, e ∙ stays.1, stays.2)

front_stays : (text more : List ℕ) (ended : Bool) (item : Heard) (rest : List ℕ) → front text false ≡ Gives item rest → Stays (front (text ++ more) ended) item rest more
front_stays text more ended item rest e = elim (none_or_some (head_in text)) [
  | inl none ↦
      let full = no_head_stays text more ended item rest (sym (front_without text false none) ∙ e) in
      let fits : most_head ≤ length text = full.0 in
      full.1 (front (text ++ more) ended)
      (front_without (text ++ more) ended (head_in_at_limit text more fits none)
      ∙ no_head_full (text ++ more) ended (omega (arith, length-append text more)))
  | inr found ↦
      let h : RequestHead = found.0.0 in
      let r : List ℕ = found.0.1 in
      stays_at (front (text ++ more) ended) (opened (opening_of (heading_of h)) (r ++ more) ended) item rest more
      (front_behind (text ++ more) ended h (r ++ more) (head_in_more text h r more found.1))
      (opened_stays (opening_of (heading_of h)) r more ended item rest (sym (front_behind text false h r found.1) ∙ e))
]

-- so the items of the beginning of a stream are the beginning of its items

behind_item : (keep : Bool) (item : Heard) (all first : List Heard) → (keep ≡ true → BeginsWith all first) →
    BeginsWith (item ∷ (if keep then all else [])) (item ∷ (if keep then first else []))
behind_item true item all first begins = let x = begins refl in (x.0, ap (λ (t : List Heard). item ∷ t) x.1)
behind_item false item all first begins = ([], refl)

front_or_none : (f : Front) → (f ≡ Nothing) ⊎ ((item : Heard) × (rest : List ℕ) × (f ≡ Gives item rest))
front_or_none Nothing = inl refl
front_or_none (Gives item rest) = inr (item, rest, refl)

begins_alike : (all first other begun : List Heard) → all ≡ other → first ≡ begun → BeginsWith other begun → BeginsWith all first
begins_alike all first other begun is_all is_first begins = (begins.0, is_all ∙ begins.1 ∙ ap (λ (t : List Heard). t ++ begins.0) (sym is_first))

begins_by : (text more : List ℕ) (ended : Bool) →
    ((rest : List ℕ) → length rest < length text → BeginsWith (items (rest ++ more) ended) (items rest false)) →
    BeginsWith (items (text ++ more) ended) (items text false)
begins_by text more ended again = elim (front_or_none (front text false)) [
  | inl none ↦ (
    items (text ++ more) ended,
    ap (λ (first : List Heard). first ++ items (text ++ more) ended)
        (sym (items_step text false ∙ ap (λ (f : Front). onward f (λ rest. items rest false)) none)),
  )
  | inr found ↦
      let item : Heard = found.0 in
      let rest : List ℕ = found.1 in
      let stays = front_stays text more ended item rest found.2 in
      begins_alike (items (text ++ more) ended) (items text false)
      (item ∷ (if keeps item then items stays.0 ended else [])) (item ∷ (if keeps item then items rest false else []))
      (items_step (text ++ more) ended ∙ ap (λ (f : Front). onward f (λ r. items r ended)) stays.1)
      (items_step text false ∙ ap (λ (f : Front). onward f (λ r. items r false)) found.2)
      (behind_item (keeps item) item (items stays.0 ended) (items rest false)
      (λ keep. begins_alike (items stays.0 ended) (items rest false) (items (rest ++ more) ended) (items rest false)
      (ap (λ (t : List ℕ). items t ended) (stays.2 keep)) refl (again rest (front_shorter text false item rest found.2))))
]

begins_at : (n : ℕ) (text more : List ℕ) (ended : Bool) → length text ≤ n → BeginsWith (items (text ++ more) ended) (items text false)
begins_at zero text more ended few = begins_by text more ended (λ rest less. absurd (omega arith))
begins_at (suc n) text more ended few = begins_by text more ended (λ rest less. begins_at n rest more ended (omega arith))

pub items_begin : (text more : List ℕ) (ended : Bool) → BeginsWith (items (text ++ more) ended) (items text false)
items_begin text more ended = begins_at (length text) text more ended (omega arith)
