-- What arrives on a connection is just the items of its joined bytes.
use Rattle.std.proofs.Common.{◌≡◌, ◌≢◌, ℕ, zero, suc, ◌+◌, ◌<◌, Bool, true, false, ◌==◌, if◌then◌else◌, List, [], ◌∷◌, ◌++◌, length, drop, map, Some, slice_get, refl, sym, ap, subst, ◌∙◌, arith, append_assoc, append-nil, eq-eqb, eqb-true, ne_eqb, true≢false}
use Rattle.std.specs.List.{flat_map}
use Rattle.std.proofs.lemmas.Grind.{flat_map-append}
use Rattle.std.proofs.Math.Seq.{drop-append_seam}
use Rattle.http_items.specs.Items.{Heard, items, items_upto, BeginsWith}
use Rattle.recording_format.specs.declared.records.Event.{Event}
use Rattle.recording_format.specs.declared.records.Event.TheVariants.{Begins, Arrives, Closes}
use Rattle.recording_format.specs.declared.records.Record.{Record}
use Rattle.recording_format.specs.Connections.{Arrival, Connection, piece_in, pieces_from, stream_of, tenants_of, connections_from, connections_of}
use Rattle.recording_format.specs.Standing.{standing_behind}
use Rattle.recorded_arrivals.specs.Arrivals.{Arrived, arrived_at, bytes_in, bytes_on, complete_on, completed_by, arrivals_behind, completed_at_end, endings_from, arrivals, heard_on}
use Rattle.recorded_arrivals.proofs.BytesLaws.{chosen, not_chosen, bytes_here, bytes_elsewhere, bytes_of_none}

-- ---- the joined bytes

piece_bytes : (number link moment : ℕ) (is_here : Bool) (event : Event) → flat_map (λ (p : Arrival). p.bytes) (if is_here then piece_in number moment event else []) ≡ (if is_here then bytes_in event else [])
piece_bytes number link moment true (Begins tenant) = refl
piece_bytes number link moment true (Arrives piece) = append-nil piece
piece_bytes number link moment true Closes = refl
piece_bytes number link moment false event = refl

joined : (number link : ℕ) (records : List Record) → flat_map (λ (p : Arrival). p.bytes) (pieces_from number link records) ≡ bytes_on link records
unfolding bytes_on
joined number link [] = refl
joined number link (r ∷ records) =
    flat_map-append (λ (p : Arrival). p.bytes) (if r.link == link then piece_in number r.moment r.event else []) (pieces_from (suc number) link records)
    ∙ ap (λ (bytes : List ℕ). bytes ++ flat_map (λ (p : Arrival). p.bytes) (pieces_from (suc number) link records)) (piece_bytes number link r.moment (r.link == link) r.event)
    ∙ ap (λ (bytes : List ℕ). (if r.link == link then bytes_in r.event else []) ++ bytes) (joined (suc number) link records)

record IsConnection (link : ℕ) (count : ℕ) (records : List Record) (c : Connection) : Type 0 where
  below : link < count
  bytes : stream_of c ≡ bytes_on link records

connection_at : (first n k : ℕ) (tenants : List ℕ) (records : List Record) (c : Connection) → n ≡ first + k
    → slice_get (connections_from first tenants records) k ≡ Some c → IsConnection n (first + length tenants) records c
connection_at first n k [] records c at is = absurd cc
connection_at first n zero (tenant ∷ tenants) records c at is =
    let here : n ≡ first = omega (arith, at) in
    let same : record { tenant = tenant; pieces = pieces_from 0 first records } ≡ c = cc in
    record {
      below = omega (arith, here);
      bytes = subst (λ (d : Connection). stream_of d ≡ bytes_on n records) same (joined 0 first records ∙ ap (λ (l : ℕ). bytes_on l records) (sym here));
    }
connection_at first n (suc k) (tenant ∷ tenants) records c at is =
    let next = connection_at (suc first) n k tenants records c (omega (arith, at)) is in
    record { below = omega (arith, next.below); bytes = next.bytes }

-- ---- what is heard

heard_here : (link moment : ℕ) (hs : List Heard) → heard_on link (map (arrived_at link moment) hs) ≡ hs
heard_here link moment [] = refl
heard_here link moment (h ∷ hs) =
    ap (λ (front : List Heard). front ++ heard_on link (map (arrived_at link moment) hs)) (chosen (link == link) (h ∷ []) [] (eq-eqb link link refl))
    ∙ ap (λ (more : List Heard). h ∷ more) (heard_here link moment hs)

heard_elsewhere : (link other moment : ℕ) (hs : List Heard) → other ≢ link → heard_on link (map (arrived_at other moment) hs) ≡ []
heard_elsewhere link other moment [] ne = refl
heard_elsewhere link other moment (h ∷ hs) ne =
    ap (λ (front : List Heard). front ++ heard_on link (map (arrived_at other moment) hs)) (not_chosen (other == link) (h ∷ []) [] (ne_eqb other link ne))
    ∙ heard_elsewhere link other moment hs ne

heard_of_both : (link : ℕ) (xs ys : List Arrived) → heard_on link (xs ++ ys) ≡ heard_on link xs ++ heard_on link ys
heard_of_both link xs ys = flat_map-append (λ (a : Arrived). if a.link == link then a.heard ∷ [] else []) xs ys

-- ---- what is complete

-- the items of a stream begin with those of its beginning
abbrev pub AreBegun : Type 0
AreBegun = (text more : List ℕ) (ended : Bool) → BeginsWith (items (text ++ more) ended) (items text false)

with_rest : (all first : List Heard) → BeginsWith all first → first ++ drop (length first) all ≡ all
with_rest all first begins =
    ap (λ (hs : List Heard). first ++ drop (length first) hs) begins.1
    ∙ ap (λ (hs : List Heard). first ++ hs) (drop-append_seam first begins.0)
    ∙ sym begins.1

none_complete : (link : ℕ) → complete_on link [] ≡ []
unfolding items items_upto
none_complete link = ap (λ (bytes : List ℕ). items bytes false) (bytes_of_none link)

-- what a record completes, on this connection
more_complete : AreBegun → (link moment : ℕ) (before : List Record) (r : Record) → (is_here : Bool) → (r.link == link) ≡ is_here
    → complete_on link before ++ heard_on link (map (arrived_at r.link moment) (completed_by before r)) ≡ complete_on link (before ++ r ∷ [])
more_complete begun link moment before r true e =
    let here : r.link ≡ link = eqb-true r.link link e in
    let bytes = bytes_here link before r here in
    let heard : heard_on link (map (arrived_at r.link moment) (completed_by before r)) ≡ completed_by before r =
    subst (λ (l : ℕ). heard_on l (map (arrived_at r.link moment) (completed_by before r)) ≡ completed_by before r) here (heard_here r.link moment (completed_by before r)) in
    let completed : completed_by before r ≡ drop (length (complete_on link before)) (complete_on link (before ++ r ∷ [])) =
    ap (λ (l : ℕ). drop (length (complete_on l before)) (complete_on l (before ++ r ∷ []))) here in
    let begins : BeginsWith (complete_on link (before ++ r ∷ [])) (complete_on link before) =
    subst (λ (b : List ℕ). BeginsWith (items b false) (complete_on link before)) (sym bytes) (begun (bytes_on link before) (bytes_in r.event) false) in
    ap (λ (hs : List Heard). complete_on link before ++ hs) (heard ∙ completed)
    ∙ with_rest (complete_on link (before ++ r ∷ [])) (complete_on link before) begins
more_complete begun link moment before r false e =
    let other : r.link ≢ link = λ (same : r.link ≡ link). true≢false (sym (eq-eqb r.link link same) ∙ e) in
    ap (λ (hs : List Heard). complete_on link before ++ hs) (heard_elsewhere link r.link moment (completed_by before r) other)
    ∙ append-nil (complete_on link before)
    ∙ ap (λ (bytes : List ℕ). items bytes false) (sym (bytes_elsewhere link before r other))

all_complete : AreBegun → (link : ℕ) (before records : List Record) → complete_on link before ++ heard_on link (arrivals_behind before records) ≡ complete_on link (before ++ records)
all_complete begun link before [] =
    append-nil (complete_on link before) ∙ ap (λ (rs : List Record). complete_on link rs) (sym (append-nil before))
all_complete begun link before (r ∷ records) =
    let now = map (arrived_at r.link r.moment) (completed_by before r) in
    let later = arrivals_behind (before ++ r ∷ []) records in
    ap (λ (hs : List Heard). complete_on link before ++ hs) (heard_of_both link now later)
    ∙ sym (append_assoc (complete_on link before) (heard_on link now) (heard_on link later))
    ∙ ap (λ (hs : List Heard). hs ++ heard_on link later) (more_complete begun link r.moment before r (r.link == link) refl)
    ∙ all_complete begun link (before ++ r ∷ []) records
    ∙ ap (λ (rs : List Record). complete_on link rs) (append_assoc before (r ∷ []) records)

-- ---- the ends of the streams

no_endings : (link first : ℕ) (owners : List ℕ) (records : List Record) → link < first → heard_on link (endings_from first owners records) ≡ []
no_endings link first [] records below = refl
no_endings link first (owner ∷ owners) records below =
    let moment = (standing_behind records).last in
    let other : first ≢ link = λ (same : first ≡ link). omega (arith, same, below) in
    heard_of_both link (map (arrived_at first moment) (completed_at_end first records)) (endings_from (suc first) owners records)
    ∙ ap (λ (hs : List Heard). hs ++ heard_on link (endings_from (suc first) owners records)) (heard_elsewhere link first moment (completed_at_end first records) other)
    ∙ no_endings link (suc first) owners records (omega (arith, below))

one_ending : (link first k : ℕ) (owners : List ℕ) (records : List Record) → link ≡ first + k → k < length owners → heard_on link (endings_from first owners records) ≡ completed_at_end link records
one_ending link first k [] records at below = absurd (omega (arith, below))
one_ending link first zero (owner ∷ owners) records at below =
    let moment = (standing_behind records).last in
    let here : first ≡ link = omega (arith, at) in
    heard_of_both link (map (arrived_at first moment) (completed_at_end first records)) (endings_from (suc first) owners records)
    ∙ ap (λ (hs : List Heard). heard_on link (map (arrived_at first moment) (completed_at_end first records)) ++ hs) (no_endings link (suc first) owners records (omega (arith, here)))
    ∙ append-nil (heard_on link (map (arrived_at first moment) (completed_at_end first records)))
    ∙ subst (λ (l : ℕ). heard_on l (map (arrived_at first moment) (completed_at_end first records)) ≡ completed_at_end l records) here (heard_here first moment (completed_at_end first records))
one_ending link first (suc k) (owner ∷ owners) records at below =
    let moment = (standing_behind records).last in
    let other : first ≢ link = λ (same : first ≡ link). omega (arith, same, at) in
    heard_of_both link (map (arrived_at first moment) (completed_at_end first records)) (endings_from (suc first) owners records)
    ∙ ap (λ (hs : List Heard). hs ++ heard_on link (endings_from (suc first) owners records)) (heard_elsewhere link first moment (completed_at_end first records) other)
    ∙ one_ending link (suc first) k owners records (omega (arith, at)) (omega (arith, below))

-- ---- all items of a connection

complete_at_end : AreBegun → (link : ℕ) (records : List Record) → complete_on link records ++ completed_at_end link records ≡ items (bytes_on link records) true
complete_at_end begun link records =
    let bytes = bytes_on link records in
    let begins : BeginsWith (items bytes true) (items bytes false) =
    subst (λ (b : List ℕ). BeginsWith (items b true) (items bytes false)) (append-nil bytes) (begun bytes [] true) in
    with_rest (items bytes true) (items bytes false) begins

pub connection_items : AreBegun → (records : List Record) (link : ℕ) (c : Connection) → slice_get (connections_of records) link ≡ Some c → heard_on link (arrivals records) ≡ items (stream_of c) true
unfolding arrivals
connection_items begun records link c is =
    let owners = tenants_of records in
    let here = connection_at 0 link link owners records c (omega arith) is in
    let pieces : heard_on link (arrivals_behind [] records) ≡ complete_on link records =
    ap (λ (hs : List Heard). hs ++ heard_on link (arrivals_behind [] records)) (sym (none_complete link)) ∙ all_complete begun link [] records in
    heard_of_both link (arrivals_behind [] records) (endings_from 0 owners records)
    ∙ ap (λ (hs : List Heard). hs ++ heard_on link (endings_from 0 owners records)) pieces
    ∙ ap (λ (hs : List Heard). complete_on link records ++ hs) (one_ending link 0 link owners records (omega arith) (omega (arith, here.below)))
    ∙ complete_at_end begun link records
    ∙ ap (λ (bytes : List ℕ). items bytes true) (sym here.bytes)
