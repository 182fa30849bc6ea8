-- The end of a stream gives at most one item, a refusal of what it cuts.
use Rattle.std.proofs.Common.{◌≡◌, ◌⊎◌, inl, inr, ℕ, zero, suc, Bool, true, false, if◌then◌else◌, nat_le, List, [], ◌∷◌, length, take, drop, Option, None, Some, refl, sym, ap, subst, append-nil}
use Rattle.httparse.specs.Grammar.{RequestHead}
use Rattle.http_items.specs.declared.refusals.Refusal.TheVariants.{BadHead, CutBody}
use Rattle.http_items.specs.Refusals.{number_of}
use Rattle.http_items.specs.Heads.{head_in, most_head}
use Rattle.http_items.specs.Headings.{heading_of, Due, due_to_head, Opening, Refused, Awaits, opening_of}
use Rattle.http_items.specs.Items.{Heard, Faulty, keeps, heard, Front, Nothing, Gives, are_pairs, opened, front_with, front, onward, items_upto, items}
use Rattle.http_items.specs.Standings.{Standing, Reading, Gathering, Over, Failed, items_from, IsQuiet}
use Rattle.http_items.specs.Ends.{IsCut, IsEnding, EndsAfter}
use Rattle.http_items.proofs.StandingLaws.{ends_reading, ends_gathering}

-- ---- the item in front of bytes

-- nothing, or a refusal of what is cut
abbrev IsLast : Front → Type 0
IsLast Nothing = Unit {0}
IsLast (Gives item rest) = IsCut item × (keeps item ≡ false)

-- the end changes nothing, or gives the last item where there was none
abbrev FrontEnds : (begun ended : Front) → Type 0
FrontEnds begun ended = (ended ≡ begun) ⊎ ((begun ≡ Nothing) × IsLast ended)

no_head_ends : (full pairs : Bool) →
    FrontEnds (if full then Gives (Faulty (number_of BadHead) false false) [] else Nothing)
    (if full then Gives (Faulty (number_of BadHead) false false) [] else (if pairs then Nothing else Gives (Faulty (number_of BadHead) false false) []))
no_head_ends true pairs = inl refl
no_head_ends false true = inl refl
no_head_ends false false = inr (refl, ((inl refl, refl), refl))

gathered_ends : (due : Due) (size : ℕ) (text : List ℕ) (whole : Bool) →
    FrontEnds (if whole then Gives (heard due (take size text)) (drop size text) else Nothing)
    (if whole then Gives (heard due (take size text)) (drop size text) else Gives (Faulty (number_of CutBody) (due_to_head due) false) [])
gathered_ends due size text true = inl refl
gathered_ends due size text false = inr (refl, ((inr refl, refl), refl))

opened_ends : (opening : Opening) (text : List ℕ) → FrontEnds (opened opening text false) (opened opening text true)
opened_ends (Refused refusal head) text = inl refl
opened_ends (Awaits due size) text = gathered_ends due size text (nat_le size (length text))

with_ends : (text : List ℕ) (found : Option (RequestHead × List ℕ)) → FrontEnds (front_with text found false) (front_with text found true)
with_ends text None = no_head_ends (nat_le most_head (length text)) (are_pairs text)
with_ends text (Some x) = opened_ends (opening_of (heading_of x.0)) x.1

front_ends : (text : List ℕ) → FrontEnds (front text false) (front text true)
front_ends text = with_ends text (head_in text)

-- ---- all items

nothing_more : (hs : List Heard) → EndsAfter hs hs
nothing_more hs = record { last = []; behind = sym (append-nil hs); ending = tt }

behind_kept : (item : Heard) (begun ended : List Heard) (keep : Bool) → EndsAfter begun ended →
    EndsAfter (item ∷ (if keep then begun else [])) (item ∷ (if keep then ended else []))
behind_kept item begun ended true e = record { last = e.last; behind = ap (λ (hs : List Heard). item ∷ hs) e.behind; ending = e.ending }
behind_kept item begun ended false e = nothing_more (item ∷ [])

onward_ends : (f : Front) (begun ended : List ℕ → List Heard) → ((rest : List ℕ) → EndsAfter (begun rest) (ended rest)) → EndsAfter (onward f begun) (onward f ended)
onward_ends Nothing begun ended each = nothing_more []
onward_ends (Gives item rest) begun ended each = behind_kept item (begun rest) (ended rest) (keeps item) (each rest)

last_alone : (f : Front) (ended : List ℕ → List Heard) → IsLast f → EndsAfter [] (onward f ended)
last_alone Nothing ended is = nothing_more []
last_alone (Gives item rest) ended is = record {
  last = item ∷ [];
  behind = ap (λ (keep : Bool). item ∷ (if keep then ended rest else [])) is.1;
  ending = is.0;
}

both_end : (f g : Front) (begun ended : List ℕ → List Heard) → FrontEnds f g → ((rest : List ℕ) → EndsAfter (begun rest) (ended rest)) →
    EndsAfter (onward f begun) (onward g ended)
both_end f g begun ended (inl same) each = subst (λ (h : Front). EndsAfter (onward f begun) (onward h ended)) (sym same) (onward_ends f begun ended each)
both_end f g begun ended (inr last) each = subst (λ (h : Front). EndsAfter (onward h begun) (onward g ended)) (sym last.0) (last_alone g ended last.1)

upto_ends : (most : ℕ) (text : List ℕ) → EndsAfter (items_upto most text false) (items_upto most text true)
unfolding items_upto
upto_ends zero text = nothing_more []
upto_ends (suc most) text =
    both_end (front text false) (front text true) (λ rest. items_upto most rest false) (λ rest. items_upto most rest true)
    (front_ends text) (λ rest. upto_ends most rest)

pub items_end : (text : List ℕ) → EndsAfter (items text false) (items text true)
unfolding items
items_end text = upto_ends (length text) text

-- ---- where a connection stands

head_cut : (pairs : Bool) → IsEnding (if pairs then [] else Faulty (number_of BadHead) false false ∷ [])
head_cut true = tt
head_cut false = (inl refl, refl)

pub quiet_ends : (standing : Standing) → IsQuiet standing → IsEnding (items_from standing [] true)
quiet_ends (Reading held) quiet =
    subst (λ (hs : List Heard). IsEnding hs)
    (ends_reading held (if are_pairs held then [] else Faulty (number_of BadHead) false false ∷ []) quiet refl) (head_cut (are_pairs held))
quiet_ends (Gathering due size got) quiet = subst (λ (hs : List Heard). IsEnding hs) (ends_gathering due size got quiet) (inr refl, refl)
quiet_ends Over quiet = tt
quiet_ends Failed quiet = tt
