-- Arrivals are within the limits of items, and on connections that begin.
use Rattle.std.proofs.Common.{ℕ, zero, suc, ◌+◌, ◌<◌, ◌≤◌, Bool, true, false, List, [], ◌∷◌, ◌++◌, length, drop, map, arith, length-append, length-set}
use Rattle.std.specs.List.{AllByRecursion}
use Rattle.http_items.specs.Items.{Heard, items, IsWithin}
use Rattle.recording_format.specs.declared.records.Record.{Record}
use Rattle.recording_format.specs.Connections.{tenants_of}
use Rattle.recording_format.specs.declared.records.Event.{Event}
use Rattle.recording_format.specs.declared.records.Event.TheVariants.{Begins, Arrives, Closes}
use Rattle.recording_format.specs.Standing.{Standing, beginning, behind, behind_all, links_behind, standing_behind}
use Rattle.recording_format.specs.Following.{Follow, IsLegal, LinkFollows}
use Rattle.recording_format.proofs.ConnectionLaws.{begun}
use Rattle.recorded_arrivals.specs.Arrivals.{Arrived, arrived_at, bytes_on, complete_on, completed_by, arrivals_behind, completed_at_end, endings_from, arrivals}
use Rattle.recorded_arrivals.proofs.FeedingLaws.{open_begun}

-- ---- all items of a recording

all_behind : (n : ℕ) (hs : List Heard) → AllByRecursion IsWithin hs → AllByRecursion IsWithin (drop n hs)
all_behind zero hs all = all
all_behind (suc n) [] all = tt
all_behind (suc n) (h ∷ hs) all = all_behind n hs all.1

-- the items of any stream are within the limits
abbrev pub AreLimited : Type 0
AreLimited = (text : List ℕ) (ended : Bool) → AllByRecursion IsWithin (items text ended)

abbrev AreWithin : List Arrived → Type 0
AreWithin arrived = AllByRecursion (λ (a : Arrived). IsWithin a.heard) arrived

all_of_both : (xs ys : List Arrived) → AreWithin xs → AreWithin ys → AreWithin (xs ++ ys)
all_of_both [] ys all others = others
all_of_both (x ∷ xs) ys all others = (all.0, all_of_both xs ys all.1 others)

all_at : (link moment : ℕ) (hs : List Heard) → AllByRecursion IsWithin hs → AreWithin (map (arrived_at link moment) hs)
all_at link moment [] all = tt
all_at link moment (h ∷ hs) all = (all.0, all_at link moment hs all.1)

behind_within : AreLimited → (before records : List Record) → AreWithin (arrivals_behind before records)
behind_within limited before [] = tt
behind_within limited before (r ∷ records) =
    all_of_both (map (arrived_at r.link r.moment) (completed_by before r)) (arrivals_behind (before ++ r ∷ []) records)
    (all_at r.link r.moment (completed_by before r)
    (all_behind (length (complete_on r.link before)) (complete_on r.link (before ++ r ∷ [])) (limited (bytes_on r.link (before ++ r ∷ [])) false)))
    (behind_within limited (before ++ r ∷ []) records)

endings_within : AreLimited → (link : ℕ) (owners : List ℕ) (records : List Record) → AreWithin (endings_from link owners records)
endings_within limited link [] records = tt
endings_within limited link (owner ∷ owners) records =
    all_of_both (map (arrived_at link (standing_behind records).last) (completed_at_end link records)) (endings_from (suc link) owners records)
    (all_at link (standing_behind records).last (completed_at_end link records)
    (all_behind (length (complete_on link records)) (items (bytes_on link records) true) (limited (bytes_on link records) true)))
    (endings_within limited (suc link) owners records)

pub arrivals_within : AreLimited → (records : List Record) → AreWithin (arrivals records)
unfolding arrivals
arrivals_within limited records =
    all_of_both (arrivals_behind [] records) (endings_from 0 (tenants_of records) records) (behind_within limited [] records) (endings_within limited 0 (tenants_of records) records)

-- ---- the connections that they come on

AreBelow : (count : ℕ) → List Arrived → Type 0
AreBelow count arrived = AllByRecursion (λ (a : Arrived). a.link < count) arrived

below_both : (count : ℕ) (xs ys : List Arrived) → AreBelow count xs → AreBelow count ys → AreBelow count (xs ++ ys)
unfolding AreBelow
below_both count [] ys all others = others
below_both count (x ∷ xs) ys all others = (all.0, below_both count xs ys all.1 others)

below_at : (count link moment : ℕ) (hs : List Heard) → link < count → AreBelow count (map (arrived_at link moment) hs)
unfolding AreBelow
below_at count link moment [] below = tt
below_at count link moment (h ∷ hs) below = (below, below_at count link moment hs below)

more_links : (links : List Bool) (link : ℕ) (event : Event) → length links ≤ length (links_behind links link event)
more_links links link (Begins tenant) = omega (arith, length-append links (true ∷ []))
more_links links link (Arrives piece) = omega arith
more_links links link Closes = omega (arith, length-set links link false)

links_grow : (s : Standing) (rs : List Record) → length s.links ≤ length (behind_all s rs).links
links_grow s [] = omega arith
links_grow s (r ∷ rs) = omega (arith, more_links s.links r.link r.event, links_grow (behind s r) rs)

is_begun : (links : List Bool) (link : ℕ) (event : Event) → LinkFollows links link event → link < length (links_behind links link event)
is_begun links link (Begins tenant) follows = omega (arith, length-append links (true ∷ []), follows)
is_begun links link (Arrives piece) follows = open_begun links link follows
is_begun links link Closes follows = omega (arith, open_begun links link follows, length-set links link false)

behind_below : (count : ℕ) (s : Standing) (before records : List Record) → Follow s records → length (behind_all s records).links ≤ count → AreBelow count (arrivals_behind before records)
unfolding AreBelow
behind_below count s before [] follow few = tt
behind_below count s before (r ∷ records) follow few =
    let below : r.link < count = omega (arith, is_begun s.links r.link r.event follow.0.link, links_grow (behind s r) records, few) in
    below_both count (map (arrived_at r.link r.moment) (completed_by before r)) (arrivals_behind (before ++ r ∷ []) records)
    (below_at count r.link r.moment (completed_by before r) below)
    (behind_below count (behind s r) (before ++ r ∷ []) records follow.1 few)

endings_below : (count link : ℕ) (owners : List ℕ) (records : List Record) → link + length owners ≤ count → AreBelow count (endings_from link owners records)
unfolding AreBelow
endings_below count link [] records few = tt
endings_below count link (owner ∷ owners) records few =
    below_both count (map (arrived_at link (standing_behind records).last) (completed_at_end link records)) (endings_from (suc link) owners records)
    (below_at count link (standing_behind records).last (completed_at_end link records) (omega (arith, few)))
    (endings_below count (suc link) owners records (omega (arith, few)))

pub arrivals_below : (records : List Record) → IsLegal records → AllByRecursion (λ (a : Arrived). a.link < length (tenants_of records)) (arrivals records)
unfolding arrivals AreBelow
arrivals_below records legal =
    let count = length (tenants_of records) in
    below_both count (arrivals_behind [] records) (endings_from 0 (tenants_of records) records)
    (behind_below count beginning [] records legal (omega (arith, begun records)))
    (endings_below count 0 (tenants_of records) records (omega arith))
