-- What arrives of the recording of one tenant alone: what arrives on the tenant's connections, but for the moment at which ends complete refusals.
use Rattle.std.proofs.Common.{◌≡◌, ◌⊎◌, inl, inr, ℕ, suc, ◌+◌, ◌<◌, ◌≤◌, Bool, true, false, cond, ◌==◌, if◌then◌else◌, List, [], ◌∷◌, ◌++◌, length, map, filter, drop, get_or, refl, sym, ap, ap₂, ◌∙◌, arith}
use Rattle.std.specs.List.{AllByRecursion}
use Rattle.http_items.specs.Ends.{IsCut, IsEnding}
use Rattle.http_items.specs.Items.{Heard, Asked, Faulty, items}
use Rattle.recording_format.specs.declared.records.Record.{Record}
use Rattle.recording_format.specs.Connections.{tenants_of}
use Rattle.recording_format.specs.Standing.{beginning, standing_behind}
use Rattle.recording_format.specs.Following.{IsLegal}
use Rattle.recorded_arrivals.specs.Arrivals.{Arrived, arrived_at, bytes_on, complete_on, completed_by, arrivals_behind, completed_at_end, endings_from, arrivals}
use Rattle.recorded_runner.specs.Alone.{is_of, renumbered, kept_of, alone}
use Rattle.recorded_runner.proofs.KeptLaws.{kept, kept_here, kept_other, kept_both, kept_few, kept_push, kept_pass}
use Rattle.recorded_runner.proofs.NumberLaws.{of_tenant, among, among_next}
use Rattle.recorded_runner.proofs.AloneLaws.{AreBelow, below_push, bytes_kept, records_below, tenants_kept}

complete_kept : (owners : List ℕ) (tenant link : ℕ) (records : List Record) → link < length owners → (get_or owners link 0 == tenant) ≡ true → AreBelow (length owners) records
    → complete_on (among owners tenant link) (kept_of owners tenant records) ≡ complete_on link records
complete_kept owners tenant link records below owned all = ap (λ (bytes : List ℕ). items bytes false) (bytes_kept owners tenant link records below owned all)

-- ---- what arrives

-- on the tenant's connection
abbrev pub is_here : (owners : List ℕ) (tenant : ℕ) → Arrived → Bool
is_here owners tenant a = get_or owners a.link 0 == tenant

-- with the new number
abbrev pub moved : (owners : List ℕ) (tenant : ℕ) → Arrived → Arrived
moved owners tenant a = record { link = among owners tenant a.link; moment = a.moment; heard = a.heard }

abbrev pub arrived_of : (owners : List ℕ) (tenant : ℕ) → List Arrived → List Arrived
arrived_of owners tenant arrived = kept (is_here owners tenant) (moved owners tenant) arrived

heard_kept : (owners : List ℕ) (tenant link moment : ℕ) (hs : List Heard) (b : Bool) → (get_or owners link 0 == tenant) ≡ b
    → arrived_of owners tenant (map (arrived_at link moment) hs) ≡ (if b then map (arrived_at (among owners tenant link) moment) hs else [])
heard_kept owners tenant link moment [] true e = refl
heard_kept owners tenant link moment [] false e = refl
heard_kept owners tenant link moment (h ∷ hs) true e =
    kept_here (is_here owners tenant) (moved owners tenant) (arrived_at link moment h) (map (arrived_at link moment) hs) e
    ∙ ap (λ (l : List Arrived). arrived_at (among owners tenant link) moment h ∷ l) (heard_kept owners tenant link moment hs true e)
heard_kept owners tenant link moment (h ∷ hs) false e =
    kept_other (is_here owners tenant) (moved owners tenant) (arrived_at link moment h) (map (arrived_at link moment) hs) e
    ∙ heard_kept owners tenant link moment hs false e

-- behind what is heard on one connection
heard_before : (owners : List ℕ) (tenant link moment : ℕ) (hs : List Heard) (others : List Arrived) (b : Bool) → (get_or owners link 0 == tenant) ≡ b
    → arrived_of owners tenant (map (arrived_at link moment) hs ++ others) ≡ (if b then map (arrived_at (among owners tenant link) moment) hs else []) ++ arrived_of owners tenant others
heard_before owners tenant link moment hs others b e =
    kept_both (is_here owners tenant) (moved owners tenant) (map (arrived_at link moment) hs) others
    ∙ ap (λ (l : List Arrived). l ++ arrived_of owners tenant others) (heard_kept owners tenant link moment hs b e)

completed_kept : (owners : List ℕ) (tenant : ℕ) (before : List Record) (r : Record) → r.link < length owners → AreBelow (length owners) before → (get_or owners r.link 0 == tenant) ≡ true
    → completed_by (kept_of owners tenant before) (renumbered owners tenant r) ≡ completed_by before r
completed_kept owners tenant before r below all e =
    ap (λ (qs : List Record). drop (length (complete_on (among owners tenant r.link) (kept_of owners tenant before))) (complete_on (among owners tenant r.link) qs))
    (sym (kept_push (λ q. is_of owners tenant q.link) (renumbered owners tenant) before r e))
    ∙ ap₂ (λ (xs ys : List Heard). drop (length xs) ys)
    (complete_kept owners tenant r.link before below e all)
    (complete_kept owners tenant r.link (before ++ r ∷ []) below e (below_push (length owners) before r all below))

one_arrives : (owners : List ℕ) (tenant : ℕ) (before : List Record) (r : Record) (rs : List Record) (b : Bool) → (get_or owners r.link 0 == tenant) ≡ b
    → r.link < length owners → AreBelow (length owners) before
    → arrivals_behind (kept_of owners tenant (before ++ r ∷ [])) (kept_of owners tenant rs) ≡ arrived_of owners tenant (arrivals_behind (before ++ r ∷ []) rs)
    → arrivals_behind (kept_of owners tenant before) (kept_of owners tenant (r ∷ rs)) ≡ arrived_of owners tenant (arrivals_behind before (r ∷ rs))
one_arrives owners tenant before r rs true e below all more =
    ap (λ (qs : List Record). arrivals_behind (kept_of owners tenant before) qs) (kept_here (λ q. is_of owners tenant q.link) (renumbered owners tenant) r rs e)
    ∙ ap₂ (λ (hs : List Heard) (qs : List Record). map (arrived_at (among owners tenant r.link) r.moment) hs ++ arrivals_behind qs (kept_of owners tenant rs))
    (completed_kept owners tenant before r below all e)
    (sym (kept_push (λ q. is_of owners tenant q.link) (renumbered owners tenant) before r e))
    ∙ ap (λ (l : List Arrived). map (arrived_at (among owners tenant r.link) r.moment) (completed_by before r) ++ l) more
    ∙ sym (heard_before owners tenant r.link r.moment (completed_by before r) (arrivals_behind (before ++ r ∷ []) rs) true e)
one_arrives owners tenant before r rs false e below all more =
    ap (λ (qs : List Record). arrivals_behind (kept_of owners tenant before) qs) (kept_other (λ q. is_of owners tenant q.link) (renumbered owners tenant) r rs e)
    ∙ ap (λ (qs : List Record). arrivals_behind qs (kept_of owners tenant rs)) (sym (kept_pass (λ q. is_of owners tenant q.link) (renumbered owners tenant) before r e))
    ∙ more
    ∙ sym (heard_before owners tenant r.link r.moment (completed_by before r) (arrivals_behind (before ++ r ∷ []) rs) false e)

arrivals_kept : (owners : List ℕ) (tenant : ℕ) (before records : List Record) → AreBelow (length owners) before → AreBelow (length owners) records
    → arrivals_behind (kept_of owners tenant before) (kept_of owners tenant records) ≡ arrived_of owners tenant (arrivals_behind before records)
arrivals_kept owners tenant before [] first all = refl
arrivals_kept owners tenant before (r ∷ rs) first all =
    one_arrives owners tenant before r rs (get_or owners r.link 0 == tenant) refl all.0 first
    (arrivals_kept owners tenant (before ++ r ∷ []) rs (below_push (length owners) before r first all.0) all.1)

-- ---- the ends of the streams, at any moment

abbrev pub endings_at : (moment link : ℕ) (owners : List ℕ) → List Record → List Arrived
endings_at moment link [] records = []
endings_at moment link (owner ∷ owners) records = map (arrived_at link moment) (completed_at_end link records) ++ endings_at moment (suc link) owners records

pub endings_are : (link : ℕ) (owners : List ℕ) (records : List Record) → endings_from link owners records ≡ endings_at (standing_behind records).last link owners records
endings_are link [] records = refl
endings_are link (owner ∷ owners) records =
    ap (λ (l : List Arrived). map (arrived_at link (standing_behind records).last) (completed_at_end link records) ++ l) (endings_are (suc link) owners records)

-- the items that the end of a stream of these bytes completes
abbrev ended_by : List ℕ → List Heard
ended_by bytes = drop (length (items bytes false)) (items bytes true)

one_ends : (owners : List ℕ) (tenant moment link k : ℕ) (o : ℕ) (os : List ℕ) (records : List Record) (b : Bool) → (o == tenant) ≡ b → get_or owners link 0 ≡ o
    → link < length owners → k ≡ among owners tenant link → AreBelow (length owners) records
    → endings_at moment (k + (if b then 1 else 0)) (filter (of_tenant tenant) os) (kept_of owners tenant records) ≡ arrived_of owners tenant (endings_at moment (suc link) os records)
    → endings_at moment k (filter (of_tenant tenant) (o ∷ os)) (kept_of owners tenant records) ≡ arrived_of owners tenant (endings_at moment link (o ∷ os) records)
one_ends owners tenant moment link k o os records true e is below at all more =
    let owned : (get_or owners link 0 == tenant) ≡ true = ap (λ (n : ℕ). n == tenant) is ∙ e in
    let bytes : bytes_on k (kept_of owners tenant records) ≡ bytes_on link records =
    ap (λ (n : ℕ). bytes_on n (kept_of owners tenant records)) at ∙ bytes_kept owners tenant link records below owned all in
    let next : suc k ≡ k + 1 = omega arith in
    ap (λ (c : Bool). endings_at moment k (cond c (o ∷ filter (of_tenant tenant) os) (filter (of_tenant tenant) os)) (kept_of owners tenant records)) e
    ∙ ap₂ (λ (hs : List Heard) (n : ℕ). map (arrived_at k moment) hs ++ endings_at moment n (filter (of_tenant tenant) os) (kept_of owners tenant records)) (ap ended_by bytes) next
    ∙ ap₂ (λ (n : ℕ) (l : List Arrived). map (arrived_at n moment) (completed_at_end link records) ++ l) at more
    ∙ sym (heard_before owners tenant link moment (completed_at_end link records) (endings_at moment (suc link) os records) true owned)
one_ends owners tenant moment link k o os records false e is below at all more =
    let owned : (get_or owners link 0 == tenant) ≡ false = ap (λ (n : ℕ). n == tenant) is ∙ e in
    let stays : k ≡ k + 0 = omega arith in
    ap (λ (c : Bool). endings_at moment k (cond c (o ∷ filter (of_tenant tenant) os) (filter (of_tenant tenant) os)) (kept_of owners tenant records)) e
    ∙ ap (λ (n : ℕ). endings_at moment n (filter (of_tenant tenant) os) (kept_of owners tenant records)) stays
    ∙ more
    ∙ sym (heard_before owners tenant link moment (completed_at_end link records) (endings_at moment (suc link) os records) false owned)

-- the owners from this place on
pub endings_kept : (owners rest : List ℕ) (tenant moment link k : ℕ) (records : List Record) → ((j : ℕ) → get_or rest j 0 ≡ get_or owners (link + j) 0) → link + length rest ≡ length owners
    → k ≡ among owners tenant link → AreBelow (length owners) records
    → endings_at moment k (filter (of_tenant tenant) rest) (kept_of owners tenant records) ≡ arrived_of owners tenant (endings_at moment link rest records)
endings_kept owners [] tenant moment link k records each many at all = refl
endings_kept owners (o ∷ os) tenant moment link k records each many at all =
    let first : link ≡ link + 0 = omega arith in
    let here : get_or owners link 0 ≡ o = ap (λ (n : ℕ). get_or owners n 0) first ∙ sym (each 0) in
    let below : link < length owners = omega (arith, many) in
    let next : k + (if o == tenant then 1 else 0) ≡ among owners tenant (suc link) =
    ap₂ (λ (n owner : ℕ). n + (if owner == tenant then 1 else 0)) at (sym here) ∙ sym (among_next owners tenant link below) in
    one_ends owners tenant moment link k o os records (o == tenant) refl here below at all
    (endings_kept owners os tenant moment (suc link) (k + (if o == tenant then 1 else 0)) records (λ j. each (suc j) ∙ ap (λ (n : ℕ). get_or owners n 0) (omega arith)) (omega (arith, many)) next all)

-- ---- all of it, but for the moment of the ends

-- the arrivals of a recording, if its ends had this moment
abbrev pub arrivals_ending : (moment : ℕ) → List Record → List Arrived
arrivals_ending moment records = arrivals_behind [] records ++ endings_at moment 0 (tenants_of records) records

pub arrivals_ended : (records : List Record) → arrivals records ≡ arrivals_ending (standing_behind records).last records
unfolding arrivals
arrivals_ended records = ap (λ (l : List Arrived). arrivals_behind [] records ++ l) (endings_are 0 (tenants_of records) records)

pub arrivals_alone : (tenant moment : ℕ) (records : List Record) → IsLegal records
    → arrivals_ending moment (alone tenant records) ≡ arrived_of (tenants_of records) tenant (arrivals_ending moment records)
unfolding alone
arrivals_alone tenant moment records legal =
    let owners = tenants_of records in
    let all = records_below records legal in
    ap₂ (λ (front others : List Arrived). front ++ others)
    (arrivals_kept owners tenant [] records tt all)
    (ap (λ (os : List ℕ). endings_at moment 0 os (kept_of owners tenant records)) (tenants_kept owners [] tenant beginning records legal refl refl)
    ∙ endings_kept owners owners tenant moment 0 0 records (λ j. ap (λ (n : ℕ). get_or owners n 0) (omega arith)) (omega arith) refl all)
    ∙ sym (kept_both (is_here owners tenant) (moved owners tenant) (arrivals_behind [] records) (endings_at moment 0 owners records))

-- ---- refusals have any moment

-- no route and no meter is asked for it
abbrev pub IsFaulty : Heard → Type 0
IsFaulty (Asked method path keep body) = ⊥
IsFaulty (Faulty number head keep) = Unit {0}

-- the ends of streams complete refusals alone
abbrev pub AreEndings : Type 0
AreEndings = (link : ℕ) (records : List Record) → IsEnding (completed_at_end link records)

cut_faulty : (h : Heard) → IsCut h → IsFaulty h
cut_faulty (Asked method path keep body) cut = absurd cut
cut_faulty (Faulty number head keep) cut = tt

ending_faulty : (hs : List Heard) → IsEnding hs → AllByRecursion IsFaulty hs
ending_faulty [] ending = tt
ending_faulty (h ∷ []) ending = (cut_faulty h ending, tt)
ending_faulty (h ∷ g ∷ hs) ending = absurd ending

-- the same items at the same moments, but that refusals may have others
pub record IsAlike (a b : Arrived) : Type 0 where
  pub link : a.link ≡ b.link
  pub heard : a.heard ≡ b.heard
  pub moment : IsFaulty a.heard ⊎ (a.moment ≡ b.moment)

abbrev pub AreAlike : (xs ys : List Arrived) → Type 0
AreAlike [] [] = Unit {0}
AreAlike [] (b ∷ ys) = ⊥
AreAlike (a ∷ xs) [] = ⊥
AreAlike (a ∷ xs) (b ∷ ys) = IsAlike a b × AreAlike xs ys

pub alike_both : (xs xs' ys ys' : List Arrived) → AreAlike xs xs' → AreAlike ys ys' → AreAlike (xs ++ ys) (xs' ++ ys')
alike_both [] [] ys ys' first others = others
alike_both [] (b ∷ xs') ys ys' first others = absurd first
alike_both (a ∷ xs) [] ys ys' first others = absurd first
alike_both (a ∷ xs) (b ∷ xs') ys ys' first others = (first.0, alike_both xs xs' ys ys' first.1 others)

alike_same : (xs : List Arrived) → AreAlike xs xs
alike_same [] = tt
alike_same (a ∷ xs) = (record { link = refl; heard = refl; moment = inr refl }, alike_same xs)

alike_at : (link one other : ℕ) (hs : List Heard) → AllByRecursion IsFaulty hs → AreAlike (map (arrived_at link one) hs) (map (arrived_at link other) hs)
alike_at link one other [] all = tt
alike_at link one other (h ∷ hs) all = (record { link = refl; heard = refl; moment = inl all.0 }, alike_at link one other hs all.1)

alike_ends : AreEndings → (one other link : ℕ) (owners : List ℕ) (records : List Record) → AreAlike (endings_at one link owners records) (endings_at other link owners records)
alike_ends ends one other link [] records = tt
alike_ends ends one other link (owner ∷ owners) records =
    alike_both (map (arrived_at link one) (completed_at_end link records)) (map (arrived_at link other) (completed_at_end link records)) (endings_at one (suc link) owners records) (endings_at other (suc link) owners records)
    (alike_at link one other (completed_at_end link records) (ending_faulty (completed_at_end link records) (ends link records)))
    (alike_ends ends one other (suc link) owners records)

pub all_alike : AreEndings → (one other : ℕ) (records : List Record) → AreAlike (arrivals_ending one records) (arrivals_ending other records)
all_alike ends one other records =
    alike_both (arrivals_behind [] records) (arrivals_behind [] records) (endings_at one 0 (tenants_of records) records) (endings_at other 0 (tenants_of records) records)
    (alike_same (arrivals_behind [] records)) (alike_ends ends one other 0 (tenants_of records) records)

-- ---- it has no more items

alike_many : (xs ys : List Arrived) → AreAlike xs ys → length xs ≡ length ys
alike_many [] [] are = refl
alike_many [] (b ∷ ys) are = absurd are
alike_many (a ∷ xs) [] are = absurd are
alike_many (a ∷ xs) (b ∷ ys) are = ap suc (alike_many xs ys are.1)

pub fewer_alone : AreEndings → (tenant : ℕ) (records : List Record) → IsLegal records → length (arrivals (alone tenant records)) ≤ length (arrivals records)
fewer_alone ends tenant records legal =
    let one = (standing_behind (alone tenant records)).last in
    let other = (standing_behind records).last in
    let owners = tenants_of records in
    omega (
      arith,
      ap (λ (l : List Arrived). length l) (arrivals_ended (alone tenant records) ∙ arrivals_alone tenant one records legal),
      kept_few (is_here owners tenant) (moved owners tenant) (arrivals_ending one records),
      alike_many (arrivals_ending one records) (arrivals_ending other records) (all_alike ends one other records),
      ap (λ (l : List Arrived). length l) (arrivals_ended records),
    )
