-- One item more is answered.
use Rattle.std.proofs.Common.{◌≡◌, ◌≢◌, ℕ, zero, suc, ◌+◌, ◌<◌, Bool, true, false, ◌==◌, if◌then◌else◌, List, [], ◌∷◌, ◌++◌, length, get_or, set, replicate, sum_by, refl, sym, ap, ap₂, ◌∙◌, arith, append-nil, get_or-set_same, get_or-set_other, eqb-true, eq-eqb, true≢false}
use Rattle.std.proofs.lemmas.Grind.{flat_map-append}
use Rattle.std.proofs.lemmas.List.{length_push}
use Rattle.std.proofs.lemmas.List.Sums.{sum_by-append}
use Rattle.serve_config.specs.declared.tenants.Tenant.{Tenant}
use Rattle.serve_config.specs.Configuration.{Configuration}
use Rattle.wasm_meaning.specs.Programs.{Program}
use Rattle.wasm_meaning.specs.Requests.{units}
use Rattle.recorded_runner.specs.Fates.{Decided}
use Rattle.recorded_runner.specs.Joined.{joined_from}
use Rattle.recorded_runner.specs.Replies.{reply_to}
use Rattle.recorded_runner.specs.ReplayText.{answers_magic, replies_on}
use Rattle.recorded_runner.specs.Summaries.{admitted_in, cost_in, turns_in, summary_over}
use Rattle.recorded_runner.specs.Tallies.{IsTallied, IsWritten}
use Rattle.recorded_runner.specs.declared.played.Played.{Played}
use Rattle.recorded_runner.specs.declared.played.Summary.{Summary}
use Rattle.recorded_runner.proofs.TextLaws.{joined_texts}

-- ---- the replies

replies_more : (tenants : List Tenant) (programs : List Program) (link : ℕ) (done : List Decided) (d : Decided)
    → replies_on tenants programs link (done ++ d ∷ []) ≡ replies_on tenants programs link done ++ (if d.link == link then reply_to tenants programs d else [])
unfolding replies_on
replies_more tenants programs link done d =
    flat_map-append (λ (e : Decided). if e.link == link then reply_to tenants programs e else []) done (d ∷ [])
    ∙ ap (λ (bytes : List ℕ). replies_on tenants programs link done ++ bytes) (append-nil (if d.link == link then reply_to tenants programs d else []))

added : (tenants : List Tenant) (programs : List Program) (link : ℕ) (done : List Decided) (d : Decided) (old new : List (List ℕ)) (reply : List ℕ)
    → get_or old link [] ≡ replies_on tenants programs link done
    → d.link < length old → new ≡ set old d.link (get_or old d.link [] ++ reply) → reply ≡ reply_to tenants programs d
    → (is_here : Bool) → (d.link == link) ≡ is_here
    → get_or new link [] ≡ replies_on tenants programs link done ++ (if is_here then reply_to tenants programs d else [])
added tenants programs link done d old new reply said below is due true e =
    let here : d.link ≡ link = eqb-true d.link link e in
    ap (λ (rs : List (List ℕ)). get_or rs link []) is
    ∙ ap (λ (l : ℕ). get_or (set old d.link (get_or old d.link [] ++ reply)) l []) (sym here)
    ∙ get_or-set_same old d.link (get_or old d.link [] ++ reply) [] below
    ∙ ap (λ (l : ℕ). get_or old l [] ++ reply) here
    ∙ ap₂ (λ (front more : List ℕ). front ++ more) said due
added tenants programs link done d old new reply said below is due false e =
    let other : link ≢ d.link = λ (same : link ≡ d.link). true≢false (sym (eq-eqb d.link link (sym same)) ∙ e) in
    ap (λ (rs : List (List ℕ)). get_or rs link []) is
    ∙ get_or-set_other old d.link link (get_or old d.link [] ++ reply) [] other
    ∙ said
    ∙ sym (append-nil (replies_on tenants programs link done))

-- ---- the summary

same_summary : (a b : Summary) → a.requests ≡ b.requests → a.admitted ≡ b.admitted → a.started ≡ b.started → a.turns ≡ b.turns → a.units ≡ b.units → a ≡ b
same_summary a b p q r s t = λ i. record { requests = p i; admitted = q i; started = r i; turns = s i; units = t i }

sum_more : (f : Decided → ℕ) (done : List Decided) (d : Decided) (before more : ℕ) → before ≡ sum_by f done → more ≡ f d → before + more ≡ sum_by f (done ++ d ∷ [])
sum_more f done d before more is due = omega (arith, is, due, sum_by-append f done (d ∷ []))

summed : (quantum : ℕ) (tenants : List Tenant) (programs : List Program) (done : List Decided) (d : Decided) (before after : Summary) (admitted turns cost : ℕ)
    → before ≡ summary_over quantum tenants programs done
    → after ≡ record { requests = before.requests + 1; admitted = before.admitted + admitted; started = before.started + admitted; turns = before.turns + turns; units = before.units + cost }
    → admitted ≡ admitted_in d.fate → turns ≡ cost_in (turns_in quantum) tenants programs d.fate → cost ≡ cost_in units tenants programs d.fate
    → after ≡ summary_over quantum tenants programs (done ++ d ∷ [])
summed quantum tenants programs done d before after admitted turns cost said is one spent paid =
    is ∙ same_summary _ (summary_over quantum tenants programs (done ++ d ∷ []))
    (omega (arith, ap (λ (s : Summary). s.requests) said, length_push done d))
    (sum_more (λ (e : Decided). admitted_in e.fate) done d before.admitted admitted (ap (λ (s : Summary). s.admitted) said) one)
    (sum_more (λ (e : Decided). admitted_in e.fate) done d before.started admitted (ap (λ (s : Summary). s.started) said) one)
    (sum_more (λ (e : Decided). cost_in (turns_in quantum) tenants programs e.fate) done d before.turns turns (ap (λ (s : Summary). s.turns) said) spent)
    (sum_more (λ (e : Decided). cost_in units tenants programs e.fate) done d before.units cost (ap (λ (s : Summary). s.units) said) paid)

-- ---- both

pub one_more : (c : Configuration) (programs : List Program) (done : List Decided) (d : Decided) (old new : List (List ℕ)) (before after : Summary) (reply : List ℕ) (admitted turns cost : ℕ)
    → IsTallied c programs done old before
    → d.link < length old → new ≡ set old d.link (get_or old d.link [] ++ reply) → reply ≡ reply_to c.tenants programs d
    → after ≡ record { requests = before.requests + 1; admitted = before.admitted + admitted; started = before.started + admitted; turns = before.turns + turns; units = before.units + cost }
    → admitted ≡ admitted_in d.fate → turns ≡ cost_in (turns_in c.quantum) c.tenants programs d.fate → cost ≡ cost_in units c.tenants programs d.fate
    → IsTallied c programs (done ++ d ∷ []) new after
one_more c programs done d old new before after reply admitted turns cost t below is due sums one spent paid = record {
  replies_are = λ link.
      added c.tenants programs link done d old new reply (t.replies_are link) below is due (d.link == link) refl
      ∙ sym (replies_more c.tenants programs link done d);
  summary_is = summed c.quantum c.tenants programs done d before after admitted turns cost t.summary_is sums one spent paid;
}

none_at : (n k : ℕ) → get_or (replicate {A = List ℕ} n []) k [] ≡ []
none_at zero k = refl
none_at (suc n) zero = refl
none_at (suc n) (suc k) = none_at n k

no_replies : (tenants : List Tenant) (programs : List Program) (link : ℕ) → replies_on tenants programs link [] ≡ []
unfolding replies_on
no_replies tenants programs link = refl

pub at_first : (c : Configuration) (programs : List Program) (n : ℕ) (replies : List (List ℕ)) (summary : Summary) → replies ≡ replicate n []
    → summary ≡ record { requests = 0; admitted = 0; started = 0; turns = 0; units = 0 } → IsTallied c programs [] replies summary
at_first c programs n replies summary none nothing = record {
  replies_are = λ link. ap (λ (rs : List (List ℕ)). get_or rs link []) none ∙ none_at n link ∙ sym (no_replies c.tenants programs link);
  summary_is = nothing;
}

pub written : (c : Configuration) (programs : List Program) (done : List Decided) (replies : List (List ℕ)) (summary : Summary) (played : Played)
    → IsTallied c programs done replies summary
    → played.text.items ≡ answers_magic ++ joined_from 0 replies → played.summary ≡ summary
    → IsWritten c programs (length replies) done played
written c programs done replies summary played t text sums = record {
  text_is = λ owners same. text ∙ ap (λ (bytes : List ℕ). answers_magic ++ bytes) (joined_texts 0 owners replies (λ link. replies_on c.tenants programs link done) same (λ k. t.replies_are k ∙ ap (λ (l : ℕ). replies_on c.tenants programs l done) (omega arith)));
  summary_is = sums ∙ t.summary_is;
}
