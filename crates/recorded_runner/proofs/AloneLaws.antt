-- The recording of one tenant alone: its connections, and what it says of each.
use Rattle.std.proofs.Common.{◌≡◌, ℕ, zero, suc, ◌<◌, ◌≤◌, Bool, true, false, cond, ◌==◌, List, [], ◌∷◌, ◌++◌, length, filter, get_or, refl, sym, ap, ap₂, ◌∙◌, arith, append_assoc, length-append, length-set}
use Rattle.std.proofs.Math.Seq.{get_or-append_seam}
use Rattle.std.specs.List.{AllByRecursion}
use Rattle.recording_format.specs.declared.records.Event.{Event}
use Rattle.recording_format.specs.declared.records.Event.TheVariants.{Begins, Arrives, Closes}
use Rattle.recording_format.specs.declared.records.Record.{Record}
use Rattle.recording_format.specs.Connections.{tenant_in, tenants_of}
use Rattle.recording_format.specs.Standing.{Standing, beginning, links_behind, behind, behind_all}
use Rattle.recording_format.specs.Following.{is_open, LinkFollows, Follow, IsLegal}
use Rattle.recording_format.proofs.ConnectionLaws.{begun}
use Rattle.recorded_arrivals.specs.Arrivals.{bytes_in, bytes_on}
use Rattle.recorded_runner.specs.Alone.{Said, is_of, renumbered, kept_of, alone, said_of}
use Rattle.recorded_runner.proofs.KeptLaws.{kept_here, kept_other}
use Rattle.recorded_runner.proofs.NumberLaws.{of_tenant, among, kept_on}

-- ---- each record is on a connection that begins

pub open_below : (links : List Bool) (link : ℕ) → is_open links link ≡ true → link < length links
open_below [] link is = absurd cc
open_below (x ∷ links) zero is = omega arith
open_below (x ∷ links) (suc link) is = omega (arith, open_below links link is)

more_links : (links : List Bool) (link : ℕ) (event : Event) → length links ≤ length (links_behind links link event)
more_links links link (Begins tenant) = omega (arith, length-append links (true ∷ []))
more_links links link (Arrives piece) = omega arith
more_links links link Closes = omega (arith, length-set links link false)

pub links_grow : (s : Standing) (rs : List Record) → length s.links ≤ length (behind_all s rs).links
links_grow s [] = omega arith
links_grow s (r ∷ rs) = omega (arith, more_links s.links r.link r.event, links_grow (behind s r) rs)

pub is_begun : (links : List Bool) (link : ℕ) (event : Event) → LinkFollows links link event → link < length (links_behind links link event)
is_begun links link (Begins tenant) follows = omega (arith, length-append links (true ∷ []), follows)
is_begun links link (Arrives piece) follows = open_below links link follows
is_begun links link Closes follows = omega (arith, open_below links link follows, length-set links link false)

abbrev pub AreBelow : (count : ℕ) → List Record → Type 0
AreBelow count records = AllByRecursion (λ (r : Record). r.link < count) records

below_from : (count : ℕ) (s : Standing) (rs : List Record) → Follow s rs → length (behind_all s rs).links ≤ count → AreBelow count rs
below_from count s [] follow few = tt
below_from count s (r ∷ rs) follow few =
    (omega (arith, is_begun s.links r.link r.event follow.0.link, links_grow (behind s r) rs, few), below_from count (behind s r) rs follow.1 few)

pub records_below : (records : List Record) → IsLegal records → AreBelow (length (tenants_of records)) records
records_below records legal = below_from (length (tenants_of records)) beginning records legal (omega (arith, begun records))

pub below_push : (count : ℕ) (rs : List Record) (r : Record) → AreBelow count rs → r.link < count → AreBelow count (rs ++ r ∷ [])
below_push count [] r all below = (below, tt)
below_push count (q ∷ rs) r all below = (all.0, below_push count rs r all.1 below)

-- ---- the tenants of its connections

begins_kept : (owners : List ℕ) (tenant moment link t : ℕ) (rs : List Record) (b : Bool) → (get_or owners link 0 == tenant) ≡ b → (t == tenant) ≡ b
    → tenants_of (kept_of owners tenant rs) ≡ filter (of_tenant tenant) (tenants_of rs)
    → tenants_of (kept_of owners tenant (record { moment = moment; link = link; event = Begins t } ∷ rs)) ≡ filter (of_tenant tenant) (t ∷ tenants_of rs)
begins_kept owners tenant moment link t rs true e e' more =
    ap (λ (qs : List Record). tenants_of qs) (kept_here (λ r. is_of owners tenant r.link) (renumbered owners tenant) (record { moment = moment; link = link; event = Begins t }) rs e)
    ∙ ap (λ (ts : List ℕ). t ∷ ts) more
    ∙ sym (ap (λ (b : Bool). cond b (t ∷ filter (of_tenant tenant) (tenants_of rs)) (filter (of_tenant tenant) (tenants_of rs))) e')
begins_kept owners tenant moment link t rs false e e' more =
    ap (λ (qs : List Record). tenants_of qs) (kept_other (λ r. is_of owners tenant r.link) (renumbered owners tenant) (record { moment = moment; link = link; event = Begins t }) rs e)
    ∙ more
    ∙ sym (ap (λ (b : Bool). cond b (t ∷ filter (of_tenant tenant) (tenants_of rs)) (filter (of_tenant tenant) (tenants_of rs))) e')

silent_kept : (owners : List ℕ) (tenant : ℕ) (r : Record) (rs : List Record) (b : Bool) → (get_or owners r.link 0 == tenant) ≡ b → tenant_in r.event ≡ []
    → tenants_of (kept_of owners tenant (r ∷ rs)) ≡ tenants_of (kept_of owners tenant rs)
silent_kept owners tenant r rs true e none =
    ap (λ (qs : List Record). tenants_of qs) (kept_here (λ q. is_of owners tenant q.link) (renumbered owners tenant) r rs e)
    ∙ ap (λ (ts : List ℕ). ts ++ tenants_of (kept_of owners tenant rs)) none
silent_kept owners tenant r rs false e none =
    ap (λ (qs : List Record). tenants_of qs) (kept_other (λ q. is_of owners tenant q.link) (renumbered owners tenant) r rs e)

tenants_by : (owners done : List ℕ) (tenant moment link : ℕ) (event : Event) (rs : List Record) (s : Standing) → LinkFollows s.links link event → length s.links ≡ length done
    → owners ≡ done ++ (tenant_in event ++ tenants_of rs)
    → ((more : List ℕ) → length (links_behind s.links link event) ≡ length more → owners ≡ more ++ tenants_of rs → tenants_of (kept_of owners tenant rs) ≡ filter (of_tenant tenant) (tenants_of rs))
    → tenants_of (kept_of owners tenant (record { moment = moment; link = link; event = event } ∷ rs)) ≡ filter (of_tenant tenant) (tenant_in event ++ tenants_of rs)
tenants_by owners done tenant moment link (Begins t) rs s follows count are go =
    let at : link ≡ length done = omega (arith, follows, count) in
    let owner : get_or owners link 0 ≡ t = ap₂ (λ (os : List ℕ) (n : ℕ). get_or os n 0) are at ∙ get_or-append_seam done t (tenants_of rs) 0 in
    begins_kept owners tenant moment link t rs (t == tenant) (ap (λ (o : ℕ). o == tenant) owner) refl
    (go (done ++ t ∷ []) (omega (arith, count, length-append s.links (true ∷ []), length-append done (t ∷ []))) (are ∙ sym (append_assoc done (t ∷ []) (tenants_of rs))))
tenants_by owners done tenant moment link (Arrives piece) rs s follows count are go =
    silent_kept owners tenant (record { moment = moment; link = link; event = Arrives piece }) rs (get_or owners link 0 == tenant) refl refl
    ∙ go done count are
tenants_by owners done tenant moment link Closes rs s follows count are go =
    silent_kept owners tenant (record { moment = moment; link = link; event = Closes }) rs (get_or owners link 0 == tenant) refl refl
    ∙ go done (omega (arith, length-set s.links link false, count)) are

pub tenants_kept : (owners done : List ℕ) (tenant : ℕ) (s : Standing) (rs : List Record) → Follow s rs → length s.links ≡ length done → owners ≡ done ++ tenants_of rs
    → tenants_of (kept_of owners tenant rs) ≡ filter (of_tenant tenant) (tenants_of rs)
tenants_kept owners done tenant s [] follow count are = refl
tenants_kept owners done tenant s (r ∷ rs) follow count are =
    tenants_by owners done tenant r.moment r.link r.event rs s follow.0.link count are (λ more many is. tenants_kept owners more tenant (behind s r) rs follow.1 many is)

-- they are the tenant, as often as it has connections
pub tenants_alone : (tenant : ℕ) (records : List Record) → IsLegal records → tenants_of (alone tenant records) ≡ filter (of_tenant tenant) (tenants_of records)
unfolding alone
tenants_alone tenant records legal = tenants_kept (tenants_of records) [] tenant beginning records legal refl refl

-- ---- the bytes of a connection

pub bytes_kept : (owners : List ℕ) (tenant link : ℕ) (records : List Record) → link < length owners → (get_or owners link 0 == tenant) ≡ true → AreBelow (length owners) records
    → bytes_on (among owners tenant link) (kept_of owners tenant records) ≡ bytes_on link records
unfolding bytes_on
bytes_kept owners tenant link records below owned all =
    kept_on owners tenant (λ (r : Record). r.link) (renumbered owners tenant) (λ (r : Record). bytes_in r.event) link (λ r. refl) (λ r. refl) below owned records all

-- ---- and all that is said of it

pub said_alone : (tenant link : ℕ) (records : List Record) → IsLegal records → link < length (tenants_of records) → (get_or (tenants_of records) link 0 == tenant) ≡ true
    → said_of (among (tenants_of records) tenant link) (alone tenant records) ≡ said_of link records
unfolding alone
said_alone tenant link records legal below owned =
    let owners = tenants_of records in
    let said : Record → List Said = λ (r : Record). record { moment = r.moment; event = r.event } ∷ [] in
    kept_on owners tenant (λ (r : Record). r.link) (renumbered owners tenant) said link (λ r. refl) (λ r. refl) below owned records (records_below records legal)
