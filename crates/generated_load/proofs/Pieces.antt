-- What arrives in a recording each of whose pieces is a request of the load: that, and nothing besides.
use Rattle.std.proofs.Common.{◌≡◌, ℕ, suc, Bool, true, false, ◌==◌, if◌then◌else◌, List, [], ◌∷◌, ◌++◌, length, map, drop, refl, sym, ap, ap₂, ◌∙◌, append-nil, eq-eqb}
use Rattle.std.specs.List.{flat_map, AllByRecursion}
use Rattle.std.proofs.Math.Seq.{drop-append_seam}
use Rattle.std.proofs.lemmas.Grind.{flat_map-append}
use Rattle.http_items.specs.Items.{Heard, items}
use Rattle.recording_format.specs.declared.records.Event.{Event}
use Rattle.recording_format.specs.declared.records.Event.TheVariants.{Begins, Arrives, Closes}
use Rattle.recording_format.specs.declared.records.Record.{Record}
use Rattle.recording_format.specs.Connections.{tenants_of}
use Rattle.recording_format.specs.Standing.{standing_behind}
use Rattle.recorded_arrivals.specs.Arrivals.{Arrived, arrived_at, bytes_in, bytes_on, complete_on, completed_by, arrivals_behind, completed_at_end, endings_from, arrivals}
use Rattle.generated_load.proofs.Items.{none_first}

-- bytes that are whole items, whatever is behind them
pub record IsWhole (bytes : List ℕ) : Type 0 where
  pub apart : (rest : List ℕ) (ended : Bool) → items (bytes ++ rest) ended ≡ items bytes false ++ items rest ended

-- ---- a connection

-- the piece of an event
abbrev pub piece_in : Event → List (List ℕ)
piece_in (Begins tenant) = []
piece_in (Arrives piece) = piece ∷ []
piece_in Closes = []

abbrev piece_on : (link : ℕ) → Record → List (List ℕ)
piece_on link r = if r.link == link then piece_in r.event else []

-- those of a connection
abbrev pieces_on : (link : ℕ) → List Record → List (List ℕ)
pieces_on link records = flat_map (λ r. piece_on link r) records

abbrev joined : List (List ℕ) → List ℕ
joined pieces = flat_map (λ piece. piece) pieces

joined_in : (event : Event) → joined (piece_in event) ≡ bytes_in event
joined_in (Begins tenant) = refl
joined_in (Arrives piece) = append-nil piece
joined_in Closes = refl

joined_one : (here : Bool) (event : Event) → joined (if here then piece_in event else []) ≡ (if here then bytes_in event else [])
joined_one true event = joined_in event
joined_one false event = refl

joined_on : (link : ℕ) (records : List Record) → joined (pieces_on link records) ≡ bytes_on link records
unfolding bytes_on
joined_on link [] = refl
joined_on link (r ∷ records) =
    flat_map-append (λ (p : List ℕ). p) (piece_on link r) (pieces_on link records)
    ∙ ap₂ (λ (xs ys : List ℕ). xs ++ ys) (joined_one (r.link == link) r.event) (joined_on link records)

-- the items of pieces, one by one
abbrev pub items_in : List (List ℕ) → List Heard
items_in pieces = flat_map (λ piece. items piece false) pieces

all_read : (pieces : List (List ℕ)) (ended : Bool) → AllByRecursion IsWhole pieces → items (joined pieces) ended ≡ items_in pieces
all_read [] ended all = none_first ended
all_read (p ∷ pieces) ended all = all.0.apart (joined pieces) ended ∙ ap (λ (hs : List Heard). items p false ++ hs) (all_read pieces ended all.1)

-- ---- each piece is whole

abbrev pub AreWhole : List Record → Type 0
AreWhole records = AllByRecursion (λ (r : Record). AllByRecursion IsWhole (piece_in r.event)) records

whole_one : (here : Bool) (event : Event) → AllByRecursion IsWhole (piece_in event) → AllByRecursion IsWhole (if here then piece_in event else [])
whole_one true event all = all
whole_one false event all = tt

both_whole : (xs ys : List (List ℕ)) → AllByRecursion IsWhole xs → AllByRecursion IsWhole ys → AllByRecursion IsWhole (xs ++ ys)
both_whole [] ys all others = others
both_whole (x ∷ xs) ys all others = (all.0, both_whole xs ys all.1 others)

whole_on : (link : ℕ) (records : List Record) → AreWhole records → AllByRecursion IsWhole (pieces_on link records)
whole_on link [] all = tt
whole_on link (r ∷ records) all = both_whole (piece_on link r) (pieces_on link records) (whole_one (r.link == link) r.event all.0) (whole_on link records all.1)

whole_push : (rs : List Record) (r : Record) → AreWhole rs → AllByRecursion IsWhole (piece_in r.event) → AreWhole (rs ++ r ∷ [])
whole_push [] r all one = (one, tt)
whole_push (q ∷ rs) r all one = (all.0, whole_push rs r all.1 one)

-- the items of a connection are those of its pieces, whether its stream has ended or not
items_on : (link : ℕ) (records : List Record) (ended : Bool) → AreWhole records → items (bytes_on link records) ended ≡ items_in (pieces_on link records)
items_on link records ended all =
    ap (λ (bytes : List ℕ). items bytes ended) (sym (joined_on link records)) ∙ all_read (pieces_on link records) ended (whole_on link records all)

-- ---- what arrives

pieces_push : (rs : List Record) (r : Record) → items_in (pieces_on r.link (rs ++ r ∷ [])) ≡ items_in (pieces_on r.link rs) ++ items_in (piece_in r.event)
pieces_push rs r =
    ap items_in
    (flat_map-append (λ (q : Record). piece_on r.link q) rs (r ∷ [])
    ∙ ap (λ (ps : List (List ℕ)). pieces_on r.link rs ++ ps)
    (append-nil (piece_on r.link r) ∙ ap (λ (here : Bool). if here then piece_in r.event else []) (eq-eqb r.link r.link refl)))
    ∙ flat_map-append (λ (p : List ℕ). items p false) (pieces_on r.link rs) (piece_in r.event)

completed : (before : List Record) (r : Record) → AreWhole before → AllByRecursion IsWhole (piece_in r.event) → completed_by before r ≡ items_in (piece_in r.event)
completed before r all one =
    let old : complete_on r.link before ≡ items_in (pieces_on r.link before) = items_on r.link before false all in
    let new : complete_on r.link (before ++ r ∷ []) ≡ complete_on r.link before ++ items_in (piece_in r.event) =
    items_on r.link (before ++ r ∷ []) false (whole_push before r all one) ∙ pieces_push before r
    ∙ ap (λ (hs : List Heard). hs ++ items_in (piece_in r.event)) (sym old) in
    ap (λ (hs : List Heard). drop (length (complete_on r.link before)) hs) new ∙ drop-append_seam (complete_on r.link before) (items_in (piece_in r.event))

-- what arrives with a record
abbrev pub arrived_with : Record → List Arrived
arrived_with r = map (arrived_at r.link r.moment) (items_in (piece_in r.event))

arrived : (before records : List Record) → AreWhole before → AreWhole records → arrivals_behind before records ≡ flat_map arrived_with records
arrived before [] first all = refl
arrived before (r ∷ records) first all =
    ap₂ (λ (xs ys : List Arrived). xs ++ ys)
    (ap (λ (hs : List Heard). map (arrived_at r.link r.moment) hs) (completed before r first all.0))
    (arrived (before ++ r ∷ []) records (whole_push before r first all.0) all.1)

none_at_end : (link : ℕ) (records : List Record) → AreWhole records → completed_at_end link records ≡ []
none_at_end link records all =
    ap (λ (hs : List Heard). drop (length (complete_on link records)) hs) (items_on link records true all ∙ sym (items_on link records false all) ∙ sym (append-nil (complete_on link records)))
    ∙ drop-append_seam (complete_on link records) []

none_ended : (link : ℕ) (owners : List ℕ) (records : List Record) → AreWhole records → endings_from link owners records ≡ []
none_ended link [] records all = refl
none_ended link (owner ∷ owners) records all =
    ap₂ (λ (xs ys : List Arrived). xs ++ ys)
    (ap (λ (hs : List Heard). map (arrived_at link (standing_behind records).last) hs) (none_at_end link records all))
    (none_ended (suc link) owners records all)

pub all_arrived : (records : List Record) → AreWhole records → arrivals records ≡ flat_map arrived_with records
unfolding arrivals
all_arrived records all =
    ap₂ (λ (xs ys : List Arrived). xs ++ ys) (arrived [] records tt all) (none_ended 0 (tenants_of records) records all)
    ∙ append-nil (flat_map arrived_with records)
