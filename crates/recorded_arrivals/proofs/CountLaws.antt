-- The arrivals are as many as the items of all connections.
use Rattle.std.proofs.Common.{◌≡◌, ℕ, suc, ◌+◌, ◌<◌, Bool, true, false, ◌==◌, if◌then◌else◌, nat_le, List, [], ◌∷◌, length, Some, slice_get, refl, sym, ap, subst, ◌∙◌, arith, length-append, eq-eqb, eqb-true, true≢false}
use Rattle.std.specs.List.{flat_map, AllByRecursion}
use Rattle.std.proofs.lemmas.Bool.{leb-true, le-leb, leb-false}
use Rattle.http_items.specs.Items.{Heard, items}
use Rattle.recording_format.specs.declared.records.Record.{Record}
use Rattle.recording_format.specs.Connections.{Connection, pieces_from, stream_of, tenants_of, connections_from, connections_of}
use Rattle.recording_format.specs.Following.{IsLegal}
use Rattle.recorded_arrivals.specs.Arrivals.{Arrived, arrivals, heard_on}
use Rattle.recorded_arrivals.proofs.ConnectionItems.{AreBegun, connection_items}
use Rattle.recorded_arrivals.proofs.LimitLaws.{arrivals_below}

abbrev one_if : Bool → ℕ
one_if true = 1
one_if false = 0

-- how many arrivals are on this connection or a later one
abbrev count_from : (first : ℕ) → List Arrived → ℕ
count_from first [] = 0
count_from first (a ∷ arrived) = one_if (nat_le first a.link) + count_from first arrived

one_here : (first link : ℕ) (h : Heard) (here before behind : Bool) → (link == first) ≡ here → nat_le first link ≡ before → nat_le (suc first) link ≡ behind
    → one_if before ≡ length (if here then h ∷ [] else []) + one_if behind
one_here first link h true true true e le more = absurd (omega (arith, eqb-true link first e, leb-true (suc first) link more))
one_here first link h true true false e le more = refl
one_here first link h true false behind e le more = absurd (true≢false (sym (le-leb first link (omega (arith, eqb-true link first e))) ∙ le))
one_here first link h false true true e le more = refl
one_here first link h false true false e le more =
    absurd (true≢false (sym (eq-eqb link first (omega (arith, leb-true first link le, leb-false (suc first) link more))) ∙ e))
one_here first link h false false true e le more =
    absurd (true≢false (sym (le-leb first link (omega (arith, leb-true (suc first) link more))) ∙ le))
one_here first link h false false false e le more = refl

counted : (first : ℕ) (arrived : List Arrived) → count_from first arrived ≡ length (heard_on first arrived) + count_from (suc first) arrived
counted first [] = refl
counted first (a ∷ arrived) =
    let here : List Heard = if a.link == first then a.heard ∷ [] else [] in
    let one = one_here first a.link a.heard (a.link == first) (nat_le first a.link) (nat_le (suc first) a.link) refl refl refl in
    let size : length (heard_on first (a ∷ arrived)) ≡ length here + length (heard_on first arrived) = length-append here (heard_on first arrived) in
    omega (arith, one, size, counted first arrived)

all_counted : (arrived : List Arrived) → count_from 0 arrived ≡ length arrived
all_counted [] = refl
all_counted (a ∷ arrived) =
    let one : one_if (nat_le 0 a.link) ≡ 1 = ap one_if (le-leb 0 a.link (omega arith)) in
    omega (arith, one, all_counted arrived)

one_below : (first link : ℕ) (reached : Bool) → nat_le first link ≡ reached → link < first → one_if reached ≡ 0
one_below first link true e below = absurd (omega (arith, below, leb-true first link e))
one_below first link false e below = refl

none_counted : (count : ℕ) (arrived : List Arrived) → AllByRecursion (λ (a : Arrived). a.link < count) arrived → count_from count arrived ≡ 0
none_counted count [] below = refl
none_counted count (a ∷ arrived) below =
    omega (arith, one_below count a.link (nat_le count a.link) refl below.0, none_counted count arrived below.1)

-- the items of these connections, joined
abbrev items_of_all : List Connection → List Heard
items_of_all connections = flat_map (λ c. items (stream_of c) true) connections

all_of : (arrived : List Arrived) (first count : ℕ) (owners : List ℕ) (records : List Record) → first + length owners ≡ count
    → AllByRecursion (λ (a : Arrived). a.link < count) arrived
    → ((k link : ℕ) (c : Connection) → link ≡ first + k → slice_get (connections_from first owners records) k ≡ Some c → heard_on link arrived ≡ items (stream_of c) true)
    → count_from first arrived ≡ length (items_of_all (connections_from first owners records))
all_of arrived first count [] records at below each =
    ap (λ (n : ℕ). count_from n arrived) (omega (arith, at)) ∙ none_counted count arrived below
all_of arrived first count (owner ∷ owners) records at below each =
    let c : Connection = record { tenant = owner; pieces = pieces_from 0 first records } in
    let others : List Connection = connections_from (suc first) owners records in
    let here : length (heard_on first arrived) ≡ length (items (stream_of c) true) = ap (λ (hs : List Heard). length hs) (each 0 first c (omega arith) refl) in
    let more : count_from (suc first) arrived ≡ length (items_of_all others) =
    all_of arrived (suc first) count owners records (omega (arith, at)) below (λ k link d next is. each (suc k) link d (omega (arith, next)) is) in
    let size : length (items_of_all (c ∷ others)) ≡ length (items (stream_of c) true) + length (items_of_all others) =
    length-append (items (stream_of c) true) (items_of_all others) in
    omega (arith, counted first arrived, here, more, size)

pub all_items : AreBegun → (records : List Record) → IsLegal records → length (arrivals records) ≡ length (flat_map (λ c. items (stream_of c) true) (connections_of records))
all_items begun records legal =
    sym (all_counted (arrivals records))
    ∙ all_of (arrivals records) 0 (length (tenants_of records)) (tenants_of records) records (omega arith) (arrivals_below records legal)
    (λ k link c at is.
    let same : k ≡ link = omega (arith, at) in
    connection_items begun records link c (subst (λ (n : ℕ). slice_get (connections_of records) n ≡ Some c) same is))
