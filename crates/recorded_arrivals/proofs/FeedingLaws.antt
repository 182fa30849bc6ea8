-- One record more is fed.
use Rattle.std.proofs.Common.{◌≡◌, ◌≢◌, ℕ, zero, suc, ◌+◌, ◌<◌, ◌≤◌, Bool, true, false, List, [], ◌∷◌, ◌++◌, length, map, take, drop, set, get_or, refl, sym, ap, ap₂, subst, subst₂, ◌∙◌, arith, append_assoc, append-nil, length-append, length-set, take_all, lt-ltb}
use Rattle.std.proofs.lemmas.List.{length_push, drop_more, take_more, drop_all, get_or_default}
use Rattle.std.proofs.Math.Seq.{drop-length}
use Rattle.http_items.specs.Items.{Heard, items}
use Rattle.http_items.specs.Standings.{Standing, Reading, Over, items_from}
use Rattle.recording_format.specs.declared.records.Event.{Event}
use Rattle.recording_format.specs.declared.records.Event.TheVariants.{Begins, Arrives, Closes}
use Rattle.recording_format.specs.declared.records.Record.{Record}
use Rattle.recording_format.specs.Standing.{beginning, behind, links_behind, standing_behind}
use Rattle.recording_format.specs.Standing as standings
use Rattle.recording_format.specs.Following.{is_open, MayFollow, Follow, IsLegal}
use Rattle.recording_format.specs.Connections.{tenants_of}
use Rattle.recording_format.proofs.StandingLaws.{behind_all-append}
use Rattle.recording_format.proofs.ConnectionLaws.{begun}
use Rattle.recorded_arrivals.specs.Arrivals.{Arrived, arrived_at, bytes_in, bytes_on, complete_on, completed_by, arrivals_behind, completed_at_end, endings_from, arrivals}
use Rattle.recorded_arrivals.specs.Feeding.{Stands, AreFed, IsBegun, FeedsAt, Takes, IsFeeding}
use Rattle.recorded_arrivals.specs.Limits.{has_too_many}
use Rattle.recorded_arrivals.proofs.BytesLaws.{bytes_here, bytes_elsewhere, bytes_silent, bytes_of_none}
use Rattle.recorded_arrivals.proofs.FrontsLaws.{stands_first, stands_fed, completed_fed, completed_ended, fed_same, fed_more, fed_at, fed_set}

pub open_begun : (links : List Bool) (link : ℕ) → is_open links link ≡ true → link < length links
open_begun [] link is = absurd cc
open_begun (x ∷ links) zero is = omega arith
open_begun (x ∷ links) (suc link) is = omega (arith, open_begun links link is)

pub at_first : (all : List Record) → IsLegal all → IsFeeding all [] all [] []
at_first all legal = record { follows = legal; begun = refl; fed = tt; silent = λ link above. bytes_of_none link; told = refl }

-- what remains to be shown of a record more
made : (all before rest : List Record) (r : Record) (old new : List Standing) (arrived : List Arrived) (given : List Heard)
    → IsFeeding all before (r ∷ rest) old arrived
    → completed_by before r ≡ given
    → length new ≡ length (links_behind (standing_behind before).links r.link r.event)
    → AreFed 0 (before ++ r ∷ []) new
    → ((link : ℕ) → length new ≤ link → bytes_on link (before ++ r ∷ []) ≡ [])
    → IsFeeding all (before ++ r ∷ []) rest new (arrived ++ map (arrived_at r.link r.moment) given)
made all before rest r old new arrived given f completed begun fed silent =
    let stands : standing_behind (before ++ r ∷ []) ≡ behind (standing_behind before) r = behind_all-append beginning before r in
    record {
      follows = subst (λ (s : standings.Standing). Follow s rest) (sym stands) f.follows.1;
      begun = begun ∙ ap (λ (s : standings.Standing). length s.links) (sym stands);
      fed = fed;
      silent = silent;
      told =
          f.told
          ∙ ap (λ (hs : List Heard). arrived ++ (map (arrived_at r.link r.moment) hs ++ arrivals_behind (before ++ r ∷ []) rest)) completed
          ∙ sym (append_assoc arrived (map (arrived_at r.link r.moment) given) (arrivals_behind (before ++ r ∷ []) rest));
    }

-- a record that brings no bytes completes nothing
nothing_completed : (before : List Record) (r : Record) → bytes_in r.event ≡ [] → completed_by before r ≡ []
nothing_completed before r none =
    ap (λ (bytes : List ℕ). drop (length (complete_on r.link before)) (items bytes false)) (bytes_silent r.link before r none)
    ∙ drop-length (complete_on r.link before)

step_begins : (all before rest : List Record) (moment link tenant : ℕ) (old : List Standing) (arrived : List Arrived)
    → IsFeeding all before (record { moment = moment; link = link; event = Begins tenant } ∷ rest) old arrived
    → IsFeeding all (before ++ record { moment = moment; link = link; event = Begins tenant } ∷ []) rest (old ++ Reading [] ∷ []) (arrived ++ [])
step_begins all before rest moment link tenant old arrived f =
    let r : Record = record { moment = moment; link = link; event = Begins tenant } in
    let same : (l : ℕ) → bytes_on l (before ++ r ∷ []) ≡ bytes_on l before = λ l. bytes_silent l before r refl in
    let more : length (old ++ Reading [] ∷ []) ≡ length old + 1 = length_push old (Reading []) in
    let first : bytes_on (length old) (before ++ r ∷ []) ≡ [] = same (length old) ∙ f.silent (length old) (omega arith) in
    made all before rest r old (old ++ Reading [] ∷ []) arrived [] f
    (nothing_completed before r refl)
    (omega (arith, more, f.begun, length_push (standing_behind before).links true))
    (fed_more 0 (length old) (before ++ r ∷ []) old (Reading []) (omega arith)
    (fed_same 0 before (before ++ r ∷ []) old (λ l above. same l) f.fed)
    (stands_first (bytes_on (length old) (before ++ r ∷ [])) first))
    (λ l above. same l ∙ f.silent l (omega (arith, above, more)))

step_closes : (all before rest : List Record) (moment link : ℕ) (old : List Standing) (arrived : List Arrived)
    → IsFeeding all before (record { moment = moment; link = link; event = Closes } ∷ rest) old arrived
    → IsFeeding all (before ++ record { moment = moment; link = link; event = Closes } ∷ []) rest old (arrived ++ [])
step_closes all before rest moment link old arrived f =
    let r : Record = record { moment = moment; link = link; event = Closes } in
    let same : (l : ℕ) → bytes_on l (before ++ r ∷ []) ≡ bytes_on l before = λ l. bytes_silent l before r refl in
    made all before rest r old old arrived [] f
    (nothing_completed before r refl)
    (f.begun ∙ sym (length-set (standing_behind before).links link false))
    (fed_same 0 before (before ++ r ∷ []) old (λ l above. same l) f.fed)
    (λ l above. same l ∙ f.silent l above)

step_arrives : (all before rest : List Record) (moment link : ℕ) (piece : List ℕ) (old new : List Standing) (arrived : List Arrived) (given : List Heard)
    → IsFeeding all before (record { moment = moment; link = link; event = Arrives piece } ∷ rest) old arrived
    → FeedsAt link piece old new given
    → IsFeeding all (before ++ record { moment = moment; link = link; event = Arrives piece } ∷ []) rest new (arrived ++ map (arrived_at link moment) given)
step_arrives all before rest moment link piece old new arrived given f feeds =
    let r : Record = record { moment = moment; link = link; event = Arrives piece } in
    let s = feeds.standing in
    let below : link < length old = omega (arith, open_begun (standing_behind before).links link f.follows.0.link, f.begun) in
    let stood : Stands (bytes_on link before) (get_or old link Over) = fed_at 0 link link before old (omega arith) below f.fed in
    let bytes : bytes_on link (before ++ r ∷ []) ≡ bytes_on link before ++ piece = bytes_here link before r refl in
    let other : (l : ℕ) → l ≢ link → bytes_on l (before ++ r ∷ []) ≡ bytes_on l before = λ l ne. bytes_elsewhere l before r (λ (e : link ≡ l). ne (sym e)) in
    let stands : Stands (bytes_on link (before ++ r ∷ [])) s =
    subst (λ (b : List ℕ). Stands b s) (sym bytes) (stands_fed (bytes_on link before) piece (get_or old link Over) s given stood feeds.fed) in
    let completed : completed_by before r ≡ given =
    ap (λ (b : List ℕ). drop (length (complete_on link before)) (items b false)) bytes
    ∙ completed_fed (bytes_on link before) piece (get_or old link Over) s given stood feeds.fed in
    let size : length (set old link s) ≡ length old = length-set old link s in
    let set_one =
    made all before rest r old (set old link s) arrived given f completed
    (size ∙ f.begun)
    (fed_set 0 link link before (before ++ r ∷ []) old s (omega arith) below other f.fed stands)
    (λ l above. other l (λ (e : l ≡ link). omega (arith, above, size, below, e)) ∙ f.silent l (omega (arith, above, size))) in
    subst (λ (fronts : List Standing). IsFeeding all (before ++ r ∷ []) rest fronts (arrived ++ map (arrived_at link moment) given)) (sym feeds.set) set_one

-- the same fronts and items by other names
renamed : (all after rest : List Record) (link moment : ℕ) (due new : List Standing) (arrived : List Arrived) (given : List Heard)
    → new ≡ due → given ≡ [] → IsFeeding all after rest due (arrived ++ [])
    → IsFeeding all after rest new (arrived ++ map (arrived_at link moment) given)
renamed all after rest link moment due new arrived given is none f =
    subst₂ (λ (fronts : List Standing) (hs : List Heard). IsFeeding all after rest fronts (arrived ++ map (arrived_at link moment) hs)) (sym is) (sym none) f

by_event : (all before rest : List Record) (moment link : ℕ) (event : Event) (old new : List Standing) (arrived : List Arrived) (given : List Heard)
    → IsFeeding all before (record { moment = moment; link = link; event = event } ∷ rest) old arrived
    → Takes event link old new given
    → IsFeeding all (before ++ record { moment = moment; link = link; event = event } ∷ []) rest new (arrived ++ map (arrived_at link moment) given)
by_event all before rest moment link (Begins tenant) old new arrived given f takes =
    renamed all (before ++ record { moment = moment; link = link; event = Begins tenant } ∷ []) rest link moment (old ++ Reading [] ∷ []) new arrived given takes.0 takes.1
    (step_begins all before rest moment link tenant old arrived f)
by_event all before rest moment link (Arrives piece) old new arrived given f takes =
    step_arrives all before rest moment link piece old new arrived given f takes
by_event all before rest moment link Closes old new arrived given f takes =
    renamed all (before ++ record { moment = moment; link = link; event = Closes } ∷ []) rest link moment old new arrived given takes.0 takes.1
    (step_closes all before rest moment link old arrived f)

pub one_more : (all before rest : List Record) (r : Record) (old new : List Standing) (arrived : List Arrived) (given : List Heard)
    → IsFeeding all before (r ∷ rest) old arrived → Takes r.event r.link old new given
    → IsFeeding all (before ++ r ∷ []) rest new (arrived ++ map (arrived_at r.link r.moment) given)
one_more all before rest r old new arrived given f takes = by_event all before rest r.moment r.link r.event old new arrived given f takes

begun_by : (links : List Bool) (count link : ℕ) (event : Event) → count ≡ length links → MayFollow (record { last = 0; links = links }) (record { moment = 0; link = link; event = event }) → IsBegun count link event
begun_by links count link (Begins tenant) same may = tt
begun_by links count link (Arrives piece) same may = omega (arith, open_begun links link may.link, same)
begun_by links count link Closes same may = tt

-- a record that may come next is of a connection that has begun, or begins one
pub begun_next : (all before rest : List Record) (r : Record) (fronts : List Standing) (arrived : List Arrived) → IsFeeding all before (r ∷ rest) fronts arrived → IsBegun (length fronts) r.link r.event
begun_next all before rest r fronts arrived f =
    let may = f.follows.0 in
    begun_by (standing_behind before).links (length fronts) r.link r.event f.begun (record { moment = omega arith; link = may.link; few = may.few })

-- ---- in the words of the loop, which has fed so many records

pub starts : (all : List Record) (fronts : List Standing) (arrived : List Arrived) → IsLegal all → fronts ≡ [] → arrived ≡ [] → IsFeeding all [] all fronts arrived
starts all fronts arrived legal none nothing =
    subst₂ (λ (f : List Standing) (a : List Arrived). IsFeeding all [] all f a) (sym none) (sym nothing) (at_first all legal)

at_record : (all : List Record) (i : ℕ) (r : Record) (fronts : List Standing) (arrived : List Arrived) → i < length all → r ≡ get_or all i r
    → IsFeeding all (take i all) (drop i all) fronts arrived → IsFeeding all (take i all) (r ∷ drop (i + 1) all) fronts arrived
at_record all i r fronts arrived below is f =
    let ahead : drop i all ≡ r ∷ drop (i + 1) all = drop_more all i r below ∙ ap (λ (q : Record). q ∷ drop (i + 1) all) (sym is) in
    subst (λ (rest : List Record). IsFeeding all (take i all) rest fronts arrived) ahead f

pub begun_at : (all : List Record) (i : ℕ) (r : Record) (fronts : List Standing) (arrived : List Arrived) → i < length all → r ≡ get_or all i r
    → IsFeeding all (take i all) (drop i all) fronts arrived → IsBegun (length fronts) r.link r.event
begun_at all i r fronts arrived below is f = begun_next all (take i all) (drop (i + 1) all) r fronts arrived (at_record all i r fronts arrived below is f)

pub fed_next : (all : List Record) (i : ℕ) (r : Record) (old new : List Standing) (arrived more : List Arrived) (given : List Heard) → i < length all → r ≡ get_or all i r
    → IsFeeding all (take i all) (drop i all) old arrived → Takes r.event r.link old new given → more ≡ arrived ++ map (arrived_at r.link r.moment) given
    → IsFeeding all (take (i + 1) all) (drop (i + 1) all) new more
fed_next all i r old new arrived more given below is f takes gained =
    let before : take (i + 1) all ≡ take i all ++ r ∷ [] = take_more all i r below ∙ ap (λ (q : Record). take i all ++ q ∷ []) (sym is) in
    let next = one_more all (take i all) (drop (i + 1) all) r old new arrived given (at_record all i r old arrived below is f) takes in
    subst₂ (λ (b : List Record) (a : List Arrived). IsFeeding all b (drop (i + 1) all) new a) (sym before) (sym gained) next

pub too_many : (all before rest : List Record) (fronts : List Standing) (arrived : List Arrived) → IsFeeding all before rest fronts arrived → 4096 < length arrived → has_too_many all ≡ true
unfolding arrivals
too_many all before rest fronts arrived f many =
    let behind = arrivals_behind before rest in
    let ended = endings_from 0 (tenants_of all) all in
    let size : length (arrivals_behind [] all ++ ended) ≡ length arrived + length behind + length ended =
    omega (arith, length-append (arrivals_behind [] all) ended, ap (λ (a : List Arrived). length a) f.told, length-append arrived behind) in
    lt-ltb 4096 (length (arrivals_behind [] all ++ ended)) (omega (arith, size, many))

-- all records were fed
pub at_last : (all : List Record) (i : ℕ) (fronts : List Standing) (arrived : List Arrived) → length all ≤ i → IsFeeding all (take i all) (drop i all) fronts arrived → IsFeeding all all [] fronts arrived
at_last all i fronts arrived done f =
    subst₂ (λ (before rest : List Record). IsFeeding all before rest fronts arrived) (take_all i all done) (drop_all i all done) f

pub all_begun : (all : List Record) (fronts : List Standing) (arrived : List Arrived) → IsFeeding all all [] fronts arrived → length fronts ≡ length (tenants_of all)
all_begun all fronts arrived f = f.begun ∙ begun all

pub all_told : (all : List Record) (fronts : List Standing) (arrived : List Arrived) → IsFeeding all all [] fronts arrived → arrived ≡ arrivals_behind [] all
all_told all fronts arrived f = sym (f.told ∙ append-nil arrived)

-- ---- the ends of the streams

endings_more : (link n i : ℕ) (owners : List ℕ) (records : List Record) → n ≡ link + i → i < length owners
    → endings_from link (take (suc i) owners) records ≡ endings_from link (take i owners) records ++ map (arrived_at n (standing_behind records).last) (completed_at_end n records)
endings_more link n i [] records at below = absurd (omega (arith, below))
endings_more link n zero (owner ∷ owners) records at below =
    let here : link ≡ n = omega (arith, at) in
    append-nil (map (arrived_at link (standing_behind records).last) (completed_at_end link records))
    ∙ ap (λ (l : ℕ). map (arrived_at l (standing_behind records).last) (completed_at_end l records)) here
endings_more link n (suc i) (owner ∷ owners) records at below =
    let first = map (arrived_at link (standing_behind records).last) (completed_at_end link records) in
    ap (λ (more : List Arrived). first ++ more) (endings_more (suc link) n i owners records (omega (arith, at)) (omega (arith, below)))
    ∙ sym (append_assoc first (endings_from (suc link) (take i owners) records) (map (arrived_at n (standing_behind records).last) (completed_at_end n records)))

pub ended_next : (records : List Record) (owners : List ℕ) (fronts : List Standing) (i count moment : ℕ) (front : Standing) (given : List Heard) (first old new : List Arrived)
    → AreFed 0 records fronts → length fronts ≡ length owners → moment ≡ (standing_behind records).last
    → i < length fronts → front ≡ get_or fronts i front → given ≡ items_from front [] true → count ≡ suc i
    → old ≡ first ++ endings_from 0 (take i owners) records
    → new ≡ old ++ map (arrived_at i moment) given
    → new ≡ first ++ endings_from 0 (take count owners) records
ended_next records owners fronts i count moment front given first old new fed same last below is due one so_far gained =
    let stood : front ≡ get_or fronts i Over = is ∙ get_or_default fronts i front Over below in
    let stands : Stands (bytes_on i records) front = subst (λ (s : Standing). Stands (bytes_on i records) s) (sym stood) (fed_at 0 i i records fronts (omega arith) below fed) in
    let completed : completed_at_end i records ≡ given = completed_ended (bytes_on i records) front given stands due in
    let more = endings_more 0 i i owners records (omega arith) (omega (arith, below, same)) in
    gained
    ∙ ap₂ (λ (a : List Arrived) (m : ℕ). a ++ map (arrived_at i m) given) so_far last
    ∙ append_assoc first (endings_from 0 (take i owners) records) (map (arrived_at i (standing_behind records).last) given)
    ∙ ap (λ (hs : List Heard). first ++ (endings_from 0 (take i owners) records ++ map (arrived_at i (standing_behind records).last) hs)) (sym completed)
    ∙ ap (λ (a : List Arrived). first ++ a) (sym more)
    ∙ ap (λ (n : ℕ). first ++ endings_from 0 (take n owners) records) (sym one)

pub ended_all : (records : List Record) (owners : List ℕ) (count : ℕ) (first new : List Arrived) → length owners ≤ count → new ≡ first ++ endings_from 0 (take count owners) records → new ≡ first ++ endings_from 0 owners records
ended_all records owners count first new done said = said ∙ ap (λ (os : List ℕ). first ++ endings_from 0 os records) (take_all count owners done)

-- ---- all of it

pub all_arrived : (records : List Record) (fed new : List Arrived) → fed ≡ arrivals_behind [] records → new ≡ fed ++ endings_from 0 (tenants_of records) records → new ≡ arrivals records
unfolding arrivals
all_arrived records fed new told gained = gained ∙ ap (λ (a : List Arrived). a ++ endings_from 0 (tenants_of records) records) told

pub too_many_in_all : (records : List Record) (all : List Arrived) → all ≡ arrivals records → 4096 < length all → has_too_many records ≡ true
too_many_in_all records all is many = lt-ltb 4096 (length (arrivals records)) (omega (arith, many, ap (λ (a : List Arrived). length a) is))
