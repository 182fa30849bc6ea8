-- Where the fronts of connections stand: what a piece does to one, and that the others stay.
use Rattle.std.proofs.Common.{◌≡◌, ◌≢◌, ℕ, zero, suc, ◌+◌, ◌<◌, ◌≤◌, Bool, true, false, List, [], ◌∷◌, ◌++◌, length, drop, set, get_or, refl, sym, ap, subst, ◌∙◌, arith, append_assoc, append-nil}
use Rattle.std.proofs.Math.Seq.{drop-append_seam}
use Rattle.http_items.specs.Items.{Heard, items, items_upto}
use Rattle.http_items.specs.Standings.{Standing, Reading, Over, items_from}
use Rattle.recording_format.specs.declared.records.Record.{Record}
use Rattle.recorded_arrivals.specs.Arrivals.{bytes_on}
use Rattle.recorded_arrivals.specs.Feeding.{Stands, IsFed, AreFed}

-- ---- one connection

none_of_none : items [] false ≡ []
unfolding items items_upto
none_of_none = refl

first_goes : (more : List ℕ) (ended : Bool) → items more ended ≡ items [] false ++ items_from (Reading []) more ended
first_goes more ended = ap (λ (hs : List Heard). hs ++ items more ended) (sym none_of_none)

pub stands_first : (bytes : List ℕ) → bytes ≡ [] → Stands bytes (Reading [])
stands_first bytes none = subst (λ (b : List ℕ). Stands b (Reading [])) (sym none) (record { goes = λ more ended. first_goes more ended })

pub whole_fed : (bytes piece : List ℕ) (old new : Standing) (given : List Heard) → Stands bytes old → IsFed old piece given new
    → items (bytes ++ piece) false ≡ items bytes false ++ given
whole_fed bytes piece old new given s f = s.goes piece false ∙ ap (λ (hs : List Heard). items bytes false ++ hs) (sym f.due)

pub stands_fed : (bytes piece : List ℕ) (old new : Standing) (given : List Heard) → Stands bytes old → IsFed old piece given new → Stands (bytes ++ piece) new
stands_fed bytes piece old new given s f = record {
  goes = λ more ended.
      ap (λ (text : List ℕ). items text ended) (append_assoc bytes piece more)
      ∙ s.goes (piece ++ more) ended
      ∙ ap (λ (hs : List Heard). items bytes false ++ hs) (f.goes.same more ended)
      ∙ sym (append_assoc (items bytes false) given (items_from new more ended))
      ∙ ap (λ (hs : List Heard). hs ++ items_from new more ended) (sym (whole_fed bytes piece old new given s f));
}

-- what a piece completes is what came out
pub completed_fed : (bytes piece : List ℕ) (old new : Standing) (given : List Heard) → Stands bytes old → IsFed old piece given new
    → drop (length (items bytes false)) (items (bytes ++ piece) false) ≡ given
completed_fed bytes piece old new given s f =
    ap (λ (hs : List Heard). drop (length (items bytes false)) hs) (whole_fed bytes piece old new given s f) ∙ drop-append_seam (items bytes false) given

-- and so is what the end of the stream completes
pub completed_ended : (bytes : List ℕ) (s : Standing) (given : List Heard) → Stands bytes s → given ≡ items_from s [] true
    → drop (length (items bytes false)) (items bytes true) ≡ given
completed_ended bytes s given stands due =
    let whole : items bytes true ≡ items bytes false ++ given =
    ap (λ (text : List ℕ). items text true) (sym (append-nil bytes)) ∙ stands.goes [] true ∙ ap (λ (hs : List Heard). items bytes false ++ hs) (sym due) in
    ap (λ (hs : List Heard). drop (length (items bytes false)) hs) whole ∙ drop-append_seam (items bytes false) given

-- ---- all connections

-- each stands as before where no bytes have come
pub fed_same : (link : ℕ) (before after : List Record) (fronts : List Standing) → ((l : ℕ) → link ≤ l → bytes_on l after ≡ bytes_on l before) → AreFed link before fronts → AreFed link after fronts
fed_same link before after [] same fed = tt
fed_same link before after (s ∷ ss) same fed =
    (subst (λ (b : List ℕ). Stands b s) (sym (same link (omega arith))) fed.0, fed_same (suc link) before after ss (λ l above. same l (omega (arith, above))) fed.1)

pub fed_more : (link n : ℕ) (records : List Record) (fronts : List Standing) (s : Standing) → n ≡ link + length fronts → AreFed link records fronts → Stands (bytes_on n records) s → AreFed link records (fronts ++ s ∷ [])
fed_more link n records [] s at fed stands =
    let here : n ≡ link = omega (arith, at) in
    (subst (λ (k : ℕ). Stands (bytes_on k records) s) here stands, tt)
fed_more link n records (q ∷ fronts) s at fed stands =
    let behind : n ≡ suc link + length fronts = omega (arith, at) in
    (fed.0, fed_more (suc link) n records fronts s behind fed.1 stands)

pub fed_at : (link n k : ℕ) (records : List Record) (fronts : List Standing) → n ≡ link + k → k < length fronts → AreFed link records fronts → Stands (bytes_on n records) (get_or fronts k Over)
fed_at link n k records [] at below fed = absurd (omega (arith, below))
fed_at link n zero records (s ∷ ss) at below fed =
    let here : link ≡ n = omega (arith, at) in
    subst (λ (l : ℕ). Stands (bytes_on l records) s) here fed.0
fed_at link n (suc k) records (s ∷ ss) at below fed =
    fed_at (suc link) n k records ss (omega (arith, at)) (omega (arith, below)) fed.1

-- another standing for one of them, and the others as before
pub fed_set : (link n k : ℕ) (before after : List Record) (fronts : List Standing) (s : Standing) → n ≡ link + k → k < length fronts
    → ((l : ℕ) → l ≢ n → bytes_on l after ≡ bytes_on l before) → AreFed link before fronts → Stands (bytes_on n after) s → AreFed link after (set fronts k s)
fed_set link n k before after [] s at below same fed stands = absurd (omega (arith, below))
fed_set link n zero before after (q ∷ ss) s at below same fed stands =
    let here : n ≡ link = omega (arith, at) in
    (subst (λ (l : ℕ). Stands (bytes_on l after) s) here stands, fed_same (suc link) before after ss (λ l above. same l (λ e. omega (arith, above, at, e))) fed.1)
fed_set link n (suc k) before after (q ∷ ss) s at below same fed stands = (
  subst (λ (b : List ℕ). Stands b q) (sym (same link (λ e. omega (arith, at, e)))) fed.0,
  fed_set (suc link) n k before after ss s (omega (arith, at)) (omega (arith, below)) same fed.1 stands,
)
