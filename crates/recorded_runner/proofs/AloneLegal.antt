-- The recording of one tenant alone is a recording.
use Rattle.std.proofs.Common.{◌≡◌, ℕ, zero, suc, ◌+◌, ◌<◌, ◌≤◌, Bool, true, false, cond, ◌==◌, if◌then◌else◌, List, [], ◌∷◌, ◌++◌, length, filter, take, get_or, set, refl, sym, ap, ap₂, subst, ◌∙◌, arith, append-nil}
use Rattle.recording_format.specs.declared.records.Event.{Event}
use Rattle.recording_format.specs.declared.records.Event.TheVariants.{Begins, Arrives, Closes}
use Rattle.recording_format.specs.declared.records.Record.{Record}
use Rattle.recording_format.specs.Connections.{tenants_of}
use Rattle.recording_format.specs.Standing.{Standing, beginning, links_behind, behind, behind_all}
use Rattle.recording_format.specs.Following.{is_open, LinkFollows, MayFollow, Follow, IsLegal}
use Rattle.recording_format.proofs.ConnectionLaws.{begun}
use Rattle.recorded_runner.specs.Alone.{is_of, renumbered, kept_of, alone}
use Rattle.recorded_runner.specs.Readings.{those_of}
use Rattle.recorded_runner.proofs.KeptLaws.{kept_here, kept_other}
use Rattle.recorded_runner.proofs.NumberLaws.{of_tenant, among}
use Rattle.recorded_runner.proofs.AloneLaws.{AreBelow, links_grow, open_below, records_below}

-- ---- the tenant's connections, of those that have begun

-- how many of the first places are the tenant's: one member less in front
among_front : (o : ℕ) (os : List ℕ) (tenant link : ℕ) (b : Bool) → (o == tenant) ≡ b → among (o ∷ os) tenant (suc link) ≡ (if b then 1 else 0) + among os tenant link
among_front o os tenant link true e = ap (λ (b : Bool). length (cond b (o ∷ filter (of_tenant tenant) (take link os)) (filter (of_tenant tenant) (take link os)))) e ∙ omega arith
among_front o os tenant link false e = ap (λ (b : Bool). length (cond b (o ∷ filter (of_tenant tenant) (take link os)) (filter (of_tenant tenant) (take link os)))) e ∙ omega arith

those_here : {A : Type 0} (tenant o : ℕ) (os : List ℕ) (x : A) (xs : List A) → (o == tenant) ≡ true → those_of tenant (o ∷ os) (x ∷ xs) ≡ x ∷ those_of tenant os xs
those_here tenant o os x xs e = ap (λ (b : Bool). if b then x ∷ those_of tenant os xs else those_of tenant os xs) e

those_other : {A : Type 0} (tenant o : ℕ) (os : List ℕ) (x : A) (xs : List A) → (o == tenant) ≡ false → those_of tenant (o ∷ os) (x ∷ xs) ≡ those_of tenant os xs
those_other tenant o os x xs e = ap (λ (b : Bool). if b then x ∷ those_of tenant os xs else those_of tenant os xs) e

-- the tenant's connection is open where it was
open_next : (owners : List ℕ) (tenant o link : ℕ) (x : Bool) (links : List Bool) (b : Bool) → (o == tenant) ≡ b
    → is_open (those_of tenant owners links) (among owners tenant link) ≡ is_open links link
    → is_open (those_of tenant (o ∷ owners) (x ∷ links)) (among (o ∷ owners) tenant (suc link)) ≡ is_open links link
open_next owners tenant o link x links true e more =
    let next : among (o ∷ owners) tenant (suc link) ≡ suc (among owners tenant link) = omega (arith, among_front o owners tenant link true e) in
    ap₂ (λ (ls : List Bool) (n : ℕ). is_open ls n) (those_here tenant o owners x links e) next ∙ more
open_next owners tenant o link x links false e more =
    let next : among (o ∷ owners) tenant (suc link) ≡ among owners tenant link = omega (arith, among_front o owners tenant link false e) in
    ap₂ (λ (ls : List Bool) (n : ℕ). is_open ls n) (those_other tenant o owners x links e) next ∙ more

open_kept : (owners : List ℕ) (tenant link : ℕ) (links : List Bool) → link < length owners → link < length links → (get_or owners link 0 == tenant) ≡ true
    → is_open (those_of tenant owners links) (among owners tenant link) ≡ is_open links link
open_kept [] tenant link links below begun e = absurd (omega (arith, below))
open_kept (o ∷ os) tenant link [] below begun e = absurd (omega (arith, begun))
open_kept (o ∷ os) tenant zero (x ∷ links) below begun e = ap (λ (ls : List Bool). is_open ls 0) (those_here tenant o os x links e)
open_kept (o ∷ os) tenant (suc link) (x ∷ links) below begun e =
    open_next os tenant o link x links (o == tenant) refl (open_kept os tenant link links (omega (arith, below)) (omega (arith, begun)) e)

-- there are as many as have begun
count_next : (o : ℕ) (os : List ℕ) (tenant : ℕ) (x : Bool) (links : List Bool) (b : Bool) → (o == tenant) ≡ b → length (those_of tenant os links) ≡ among os tenant (length links)
    → length (those_of tenant (o ∷ os) (x ∷ links)) ≡ among (o ∷ os) tenant (suc (length links))
count_next o os tenant x links true e more = omega (arith, ap (λ (ls : List Bool). length ls) (those_here tenant o os x links e), among_front o os tenant (length links) true e, more)
count_next o os tenant x links false e more = omega (arith, ap (λ (ls : List Bool). length ls) (those_other tenant o os x links e), among_front o os tenant (length links) false e, more)

count_kept : (owners : List ℕ) (tenant : ℕ) (links : List Bool) → length links ≤ length owners → length (those_of tenant owners links) ≡ among owners tenant (length links)
count_kept [] tenant [] few = refl
count_kept [] tenant (x ∷ links) few = absurd (omega (arith, few))
count_kept (o ∷ os) tenant [] few = refl
count_kept (o ∷ os) tenant (x ∷ links) few = count_next o os tenant x links (o == tenant) refl (count_kept os tenant links (omega (arith, few)))

-- one more begins
begun_next : (o : ℕ) (os : List ℕ) (tenant : ℕ) (x : Bool) (links : List Bool) (more : List Bool) (b : Bool) → (o == tenant) ≡ b → those_of tenant os (links ++ true ∷ []) ≡ those_of tenant os links ++ more
    → those_of tenant (o ∷ os) ((x ∷ links) ++ true ∷ []) ≡ those_of tenant (o ∷ os) (x ∷ links) ++ more
begun_next o os tenant x links more true e is =
    those_here tenant o os x (links ++ true ∷ []) e ∙ ap (λ (ls : List Bool). x ∷ ls) is ∙ ap (λ (ls : List Bool). ls ++ more) (sym (those_here tenant o os x links e))
begun_next o os tenant x links more false e is =
    those_other tenant o os x (links ++ true ∷ []) e ∙ is ∙ ap (λ (ls : List Bool). ls ++ more) (sym (those_other tenant o os x links e))

begun_kept : (owners : List ℕ) (tenant : ℕ) (links : List Bool) (b : Bool) → length links < length owners → (get_or owners (length links) 0 == tenant) ≡ b
    → those_of tenant owners (links ++ true ∷ []) ≡ those_of tenant owners links ++ (if b then true ∷ [] else [])
begun_kept [] tenant links b few e = absurd (omega (arith, few))
begun_kept (o ∷ os) tenant [] true few e = those_here tenant o os true [] e ∙ none os
  where
    none : (os : List ℕ) → true ∷ those_of tenant os [] ≡ true ∷ []
    none [] = refl
    none (o ∷ os) = refl
begun_kept (o ∷ os) tenant [] false few e = those_other tenant o os true [] e ∙ none os
  where
    none : (os : List ℕ) → those_of {A = Bool} tenant os [] ≡ []
    none [] = refl
    none (o ∷ os) = refl
begun_kept (o ∷ os) tenant (x ∷ links) b few e =
    begun_next o os tenant x links (if b then true ∷ [] else []) (o == tenant) refl (begun_kept os tenant links b (omega (arith, few)) e)

-- one is closed
closed_next : (o : ℕ) (os : List ℕ) (tenant link : ℕ) (x : Bool) (links : List Bool) (b : Bool) → (o == tenant) ≡ b
    → those_of tenant os (set links link false) ≡ set (those_of tenant os links) (among os tenant link) false
    → those_of tenant (o ∷ os) (x ∷ set links link false) ≡ set (those_of tenant (o ∷ os) (x ∷ links)) (among (o ∷ os) tenant (suc link)) false
closed_next o os tenant link x links true e is =
    let next : among (o ∷ os) tenant (suc link) ≡ suc (among os tenant link) = omega (arith, among_front o os tenant link true e) in
    those_here tenant o os x (set links link false) e ∙ ap (λ (ls : List Bool). x ∷ ls) is
    ∙ sym (ap₂ (λ (ls : List Bool) (n : ℕ). set ls n false) (those_here tenant o os x links e) next)
closed_next o os tenant link x links false e is =
    let next : among (o ∷ os) tenant (suc link) ≡ among os tenant link = omega (arith, among_front o os tenant link false e) in
    those_other tenant o os x (set links link false) e ∙ is
    ∙ sym (ap₂ (λ (ls : List Bool) (n : ℕ). set ls n false) (those_other tenant o os x links e) next)

closed_kept : (owners : List ℕ) (tenant link : ℕ) (links : List Bool) → link < length owners → link < length links → (get_or owners link 0 == tenant) ≡ true
    → those_of tenant owners (set links link false) ≡ set (those_of tenant owners links) (among owners tenant link) false
closed_kept [] tenant link links below begun e = absurd (omega (arith, below))
closed_kept (o ∷ os) tenant link [] below begun e = absurd (omega (arith, begun))
closed_kept (o ∷ os) tenant zero (x ∷ links) below begun e =
    those_here tenant o os false links e ∙ sym (ap (λ (ls : List Bool). set ls 0 false) (those_here tenant o os x links e))
closed_kept (o ∷ os) tenant (suc link) (x ∷ links) below begun e =
    closed_next os_first os tenant link x links (os_first == tenant) refl (closed_kept os tenant link links (omega (arith, below)) (omega (arith, begun)) e)
  where
    os_first : ℕ
    os_first = o

passed_next : (o : ℕ) (os : List ℕ) (tenant link : ℕ) (x : Bool) (links : List Bool) (b : Bool) → (o == tenant) ≡ b
    → those_of tenant os (set links link false) ≡ those_of tenant os links
    → those_of tenant (o ∷ os) (x ∷ set links link false) ≡ those_of tenant (o ∷ os) (x ∷ links)
passed_next o os tenant link x links true e is =
    those_here tenant o os x (set links link false) e ∙ ap (λ (ls : List Bool). x ∷ ls) is ∙ sym (those_here tenant o os x links e)
passed_next o os tenant link x links false e is =
    those_other tenant o os x (set links link false) e ∙ is ∙ sym (those_other tenant o os x links e)

passed_kept : (owners : List ℕ) (tenant link : ℕ) (links : List Bool) → link < length owners → link < length links → (get_or owners link 0 == tenant) ≡ false
    → those_of tenant owners (set links link false) ≡ those_of tenant owners links
passed_kept [] tenant link links below begun e = absurd (omega (arith, below))
passed_kept (o ∷ os) tenant link [] below begun e = absurd (omega (arith, begun))
passed_kept (o ∷ os) tenant zero (x ∷ links) below begun e = those_other tenant o os false links e ∙ sym (those_other tenant o os x links e)
passed_kept (o ∷ os) tenant (suc link) (x ∷ links) below begun e =
    passed_next o os tenant link x links (o == tenant) refl (passed_kept os tenant link links (omega (arith, below)) (omega (arith, begun)) e)

-- ---- the records follow one another

among_few : (owners : List ℕ) (tenant link : ℕ) → among owners tenant link ≤ link
among_few [] tenant zero = omega arith
among_few [] tenant (suc link) = omega arith
among_few (o ∷ os) tenant zero = omega arith
among_few (o ∷ os) tenant (suc link) = by (o == tenant) refl (among_few os tenant link)
  where
    by : (b : Bool) → (o == tenant) ≡ b → among os tenant link ≤ link → among (o ∷ os) tenant (suc link) ≤ suc link
    by true e few = omega (arith, among_front o os tenant link true e, few)
    by false e few = omega (arith, among_front o os tenant link false e, few)

-- an event of the tenant's follows
link_follows : (owners : List ℕ) (tenant link : ℕ) (links : List Bool) (event : Event) → link < length owners → length links ≤ length owners → (get_or owners link 0 == tenant) ≡ true
    → LinkFollows links link event → LinkFollows (those_of tenant owners links) (among owners tenant link) event
link_follows owners tenant link links (Begins t) below few e follows = ap (λ (n : ℕ). among owners tenant n) follows ∙ sym (count_kept owners tenant links few)
link_follows owners tenant link links (Arrives piece) below few e follows = open_kept owners tenant link links below (open_below links link follows) e ∙ follows
link_follows owners tenant link links Closes below few e follows = open_kept owners tenant link links below (open_below links link follows) e ∙ follows

-- and the tenant's connections behind it
links_here : (owners : List ℕ) (tenant link : ℕ) (links : List Bool) (event : Event) → link < length owners → (get_or owners link 0 == tenant) ≡ true
    → LinkFollows links link event → those_of tenant owners (links_behind links link event) ≡ links_behind (those_of tenant owners links) (among owners tenant link) event
links_here owners tenant link links (Begins t) below e follows =
    begun_kept owners tenant links true (omega (arith, below, follows)) (ap (λ (n : ℕ). get_or owners n 0 == tenant) (sym follows) ∙ e)
links_here owners tenant link links (Arrives piece) below e follows = refl
links_here owners tenant link links Closes below e follows = closed_kept owners tenant link links below (open_below links link follows) e

links_other : (owners : List ℕ) (tenant link : ℕ) (links : List Bool) (event : Event) → link < length owners → (get_or owners link 0 == tenant) ≡ false
    → LinkFollows links link event → those_of tenant owners (links_behind links link event) ≡ those_of tenant owners links
links_other owners tenant link links (Begins t) below e follows =
    begun_kept owners tenant links false (omega (arith, below, follows)) (ap (λ (n : ℕ). get_or owners n 0 == tenant) (sym follows) ∙ e) ∙ append-nil (those_of tenant owners links)
links_other owners tenant link links (Arrives piece) below e follows = refl
links_other owners tenant link links Closes below e follows = passed_kept owners tenant link links below (open_below links link follows) e

one_follows : (owners : List ℕ) (tenant : ℕ) (s t : Standing) (r : Record) (rs : List Record) (b : Bool) → (get_or owners r.link 0 == tenant) ≡ b → r.link < length owners → length s.links ≤ length owners
    → MayFollow s r → t.last ≤ s.last → t.links ≡ those_of tenant owners s.links
    → ((u : Standing) → u.last ≤ r.moment → u.links ≡ those_of tenant owners (links_behind s.links r.link r.event) → Follow u (kept_of owners tenant rs))
    → Follow t (kept_of owners tenant (r ∷ rs))
one_follows owners tenant s t r rs true e below few may late are more =
    subst (λ (qs : List Record). Follow t qs) (sym (kept_here (λ q. is_of owners tenant q.link) (renumbered owners tenant) r rs e)) (
      record {
        moment = omega (arith, late, may.moment);
        link = subst (λ (ls : List Bool). LinkFollows ls (among owners tenant r.link) r.event) (sym are) (link_follows owners tenant r.link s.links r.event below few e may.link);
        few = omega (arith, among_few owners tenant r.link, may.few);
      },
      more (behind t (renumbered owners tenant r)) (omega arith)
          (ap (λ (ls : List Bool). links_behind ls (among owners tenant r.link) r.event) are ∙ sym (links_here owners tenant r.link s.links r.event below e may.link)),
    )
one_follows owners tenant s t r rs false e below few may late are more =
    subst (λ (qs : List Record). Follow t qs) (sym (kept_other (λ q. is_of owners tenant q.link) (renumbered owners tenant) r rs e))
    (more t (omega (arith, late, may.moment)) (are ∙ sym (links_other owners tenant r.link s.links r.event below e may.link)))

follow_kept : (owners : List ℕ) (tenant : ℕ) (s t : Standing) (rs : List Record) → Follow s rs → AreBelow (length owners) rs → length (behind_all s rs).links ≤ length owners → t.last ≤ s.last → t.links ≡ those_of tenant owners s.links
    → Follow t (kept_of owners tenant rs)
follow_kept owners tenant s t [] follow all few late are = tt
follow_kept owners tenant s t (r ∷ rs) follow all few late are =
    one_follows owners tenant s t r rs (get_or owners r.link 0 == tenant) refl all.0 (omega (arith, links_grow s (r ∷ rs), few)) follow.0 late are
    (λ u late' are'. follow_kept owners tenant (behind s r) u rs follow.1 all.1 few late' are')

none_of : (tenant : ℕ) (owners : List ℕ) → [] ≡ those_of {A = Bool} tenant owners []
none_of tenant [] = refl
none_of tenant (o ∷ os) = refl

pub legal_alone : (tenant : ℕ) (records : List Record) → IsLegal records → IsLegal (alone tenant records)
unfolding alone
legal_alone tenant records legal =
    follow_kept (tenants_of records) tenant beginning beginning records legal (records_below records legal) (omega (arith, begun records)) (omega arith) (none_of tenant (tenants_of records))
