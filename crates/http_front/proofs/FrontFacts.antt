-- Steps of a connection, in the words of the code: the bytes held, those taken, and those left.
use Rattle.std.proofs.Common.{◌≡◌, ◌⊎◌, inl, inr, ℕ, ◌+◌, ◌-◌, ◌<◌, ◌≤◌, true, false, List, [], ◌∷◌, ◌++◌, length, Option, Some, None, refl, ap, sym, subst, ◌∙◌, arith, append_assoc, append-nil, length-append}
use Rattle.httparse.specs.Grammar.{RequestHead, print_request}
use Rattle.http_items.specs.Ends.{IsEnding}
use Rattle.http_items.specs.Heads.{head_in}
use Rattle.http_items.specs.Headings.{Opening}
use Rattle.http_items.specs.Items.{Heard, Faulty}
use Rattle.http_items.specs.Standings.{Standing, Reading, items_from, Goes, Opens, Waits, IsQuiet}
use Rattle.http_items.proofs.FrontLaws.{front_of, head_in_more, head_in_text, head_ends_after}
use Rattle.http_items.proofs.StandingLaws.{reads_on, reads_opening, reads_beyond}
use Rattle.http_items.proofs.EndLaws.{quiet_ends}
use Rattle.http_front.specs.declared.states.State.{State}
use Rattle.http_front.specs.declared.states.State.TheVariants as state
use Rattle.http_front.specs.Views.{opened_in, standing_of}
use Rattle.http_front.proofs.HeadFacts.{some_opened}

-- a head that was found ends among the bytes taken, behind those held
pub found_after : (held taken : List ℕ) (o : Opening) (len : ℕ) → head_in held ≡ None → opened_in (held ++ taken) ≡ Some (o, len) → length held < len
found_after held taken o len none found =
    let x = some_opened (held ++ taken) o len found in
    let later = head_ends_after held taken x.0 x.1 none x.2 in
    let size = x.4 in
    omega arith

pub found_within : (held taken : List ℕ) (o : Opening) (len : ℕ) → opened_in (held ++ taken) ≡ Some (o, len) → len ≤ length held + length taken
found_within held taken o len found =
    let x = some_opened (held ++ taken) o len found in
    let sizes = sym (length-append held taken) ∙ ap (λ (t : List ℕ). length t) (head_in_text (held ++ taken) x.0 x.1 x.2) ∙ length-append (print_request x.0) x.1 in
    let size = x.4 in
    omega arith

-- and what it opens goes on behind it
pub found_opens : (held taken beyond rest front behind : List ℕ) (o : Opening) (len : ℕ) (given : List Heard) (new : Standing) (left : List ℕ) →
    head_in held ≡ None → opened_in (held ++ taken) ≡ Some (o, len) → rest ≡ taken ++ beyond → rest ≡ front ++ behind → length front ≡ len - length held →
    Opens o behind given new left → Goes (Reading held) rest given new left
found_opens held taken beyond rest front behind o len given new left none found is_taken is_front size opens =
    let x = some_opened (held ++ taken) o len found in
    let h : RequestHead = x.0 in
    let later = head_ends_after held taken h x.1 none x.2 in
    let len_is = x.4 in
    let regroup : (held ++ taken) ++ beyond ≡ held ++ rest = append_assoc held taken beyond ∙ ap (λ (t : List ℕ). held ++ t) (sym is_taken) in
    let there : head_in (held ++ rest) ≡ Some (h, x.1 ++ beyond) = ap head_in (sym regroup) ∙ head_in_more (held ++ taken) h x.1 beyond x.2 in
    let text = head_in_text (held ++ rest) h (x.1 ++ beyond) there in
    let parts = front_of (print_request h) (x.1 ++ beyond) held rest (sym text) (omega arith) in
    let sizes = ap (λ (t : List ℕ). length t) parts.1 ∙ length-append held parts.0 in
    let again = front_of parts.0 (x.1 ++ beyond) front behind (sym parts.2 ∙ is_front) (omega arith) in
    let none_left = ap (λ (t : List ℕ). length t) again.1 ∙ length-append front again.0 in
    let is_empty : again.0 ≡ [] = empty again.0 (omega arith) in
    let is_behind : x.1 ++ beyond ≡ behind = sym (again.2 ∙ ap (λ (t : List ℕ). t ++ (x.1 ++ beyond)) is_empty) in
    reads_opening held rest h behind o given new left
    (there ∙ ap (λ (t : List ℕ). let r : Option (RequestHead × List ℕ) = Some (h, t) in r) is_behind) x.3 opens
  where
    empty : (t : List ℕ) → length t ≡ 0 → t ≡ []
    empty [] e = refl
    empty (b ∷ t) e = absurd (omega arith)

-- as many bytes are taken as a head may have, or all of them
pub last_taken : (held taken beyond rest all : List ℕ) (before count : ℕ) → before ≡ length held → before < 8192 →
    (count ≡ length rest) ⊎ (count ≡ 8192 - before) → length taken ≡ count → all ≡ held ++ taken → rest ≡ taken ++ beyond →
    length all < 8192 → beyond ≡ []
last_taken held taken beyond rest all before count is_before below one size is_all is_rest short =
    let all_size = ap (λ (t : List ℕ). length t) is_all ∙ length-append held taken in
    let rest_size = ap (λ (t : List ℕ). length t) is_rest ∙ length-append taken beyond in
    none_left beyond (elim one [ inl all_taken ↦ omega arith | inr enough ↦ absurd (omega arith) ])
  where
    none_left : (t : List ℕ) → length t ≡ 0 → t ≡ []
    none_left [] e = refl
    none_left (b ∷ t) e = absurd (omega arith)

-- bytes without a head: all of those that are left, or too many
pub waits : (held taken beyond rest all : List ℕ) (given : List Heard) (new : Standing) (left : List ℕ) →
    head_in (held ++ taken) ≡ None → all ≡ held ++ taken → rest ≡ taken ++ beyond → (length all < 8192 → beyond ≡ []) →
    Waits all given new left → Goes (Reading held) rest given new left
waits held taken beyond rest all given new left none is_all is_rest is_last (inl more) =
    let whole : rest ≡ taken = is_rest ∙ ap (λ (t : List ℕ). taken ++ t) (is_last more.3) ∙ append-nil taken in
    record {
      same = λ next ended.
          (reads_on held rest).same next ended
          ∙ ap (λ (t : List ℕ). items_from (Reading (held ++ t)) next ended) whole
          ∙ ap (λ (t : List ℕ). items_from (Reading t) next ended) (sym is_all)
          ∙ sym (ap (λ (g : List Heard). g ++ items_from new (left ++ next) ended) more.0
          ∙ ap (λ (s : Standing). items_from s (left ++ next) ended) more.1
          ∙ ap (λ (t : List ℕ). items_from (Reading all) (t ++ next) ended) more.2);
    }
waits held taken beyond rest all given new left none is_all is_rest is_last (inr full) =
    let many = full.3 in
    let size = ap (λ (t : List ℕ). length t) is_all in
    record {
      same = λ next ended.
          ap (λ (t : List ℕ). items_from (Reading held) (t ++ next) ended) is_rest
          ∙ (reads_beyond held taken beyond left none (omega arith)).same next ended
          ∙ sym (ap (λ (g : List Heard). g ++ items_from new (left ++ next) ended) full.0
          ∙ ap (λ (s : Standing). (Faulty 1 false false ∷ []) ++ items_from s (left ++ next) ended) full.1);
    }

-- nothing is due in a state
pub quiet_state : (s : State) → IsQuiet (standing_of s)
quiet_state (state.Reading held) = (held.no_head, held.below)
quiet_state (state.Gathering body) = body.short
quiet_state state.Over = tt
quiet_state state.Failed = tt

-- so the end of the stream gives at most one refusal there
pub state_ends : (s : State) (given : List Heard) → given ≡ items_from (standing_of s) [] true → IsEnding given
state_ends s given is = subst (λ (hs : List Heard). IsEnding hs) (sym is) (quiet_ends (standing_of s) (quiet_state s))
