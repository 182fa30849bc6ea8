-- What arrives of the load: each of its requests, in order, and nothing besides.
use Rattle.std.proofs.Common.{◌≡◌, ℕ, zero, suc, ◌+◌, ◌%◌, ◌/◌, ◌≤◌, false, List, [], ◌∷◌, ◌++◌, length, map, refl, sym, ap, ap₂, ◌∙◌, arith, append-nil}
use Rattle.std.specs.List.{flat_map, range_with_len}
use Rattle.std.proofs.lemmas.Bool.{le-ltb}
use Rattle.std.proofs.lemmas.Grind.{flat_map-append}
use Rattle.std.proofs.lemmas.List.FromFn.{length-map-range_with_len}
use Rattle.http_items.specs.Items.{Heard, items}
use Rattle.recording_format.specs.declared.records.Record.{Record}
use Rattle.recorded_arrivals.specs.Arrivals as all
use Rattle.recorded_arrivals.specs.Arrivals.{Arrived, arrived_at}
use Rattle.recorded_arrivals.specs.Limits.{has_too_many}
use Rattle.generated_load.specs.Generator.{drawn}
use Rattle.generated_load.specs.Requests.{request_of}
use Rattle.generated_load.specs.Recording.{arrival_of, arrivals, beginning_of, beginnings, soak_links, soak_records}
use Rattle.generated_load.specs.Asked.{asked_by, arrived_of}
use Rattle.generated_load.proofs.Items.{none_first, request_first}
use Rattle.generated_load.proofs.Pieces.{IsWhole, AreWhole, arrived_with, all_arrived}

request_alone : (drawn : ℕ) → items (request_of drawn) false ≡ asked_by drawn ∷ []
request_alone drawn =
    ap (λ (bytes : List ℕ). items bytes false) (sym (append-nil (request_of drawn))) ∙ request_first drawn [] false
    ∙ ap (λ (hs : List Heard). asked_by drawn ∷ hs) (none_first false)

request_whole : (drawn : ℕ) → IsWhole (request_of drawn)
request_whole drawn = record {
  apart = λ rest ended. request_first drawn rest ended ∙ ap (λ (hs : List Heard). hs ++ items rest ended) (sym (request_alone drawn));
}

-- ---- the pieces of the load are whole

both_whole : (rs others : List Record) → AreWhole rs → AreWhole others → AreWhole (rs ++ others)
both_whole [] others all more = more
both_whole (r ∷ rs) others all more = (all.0, both_whole rs others all.1 more)

begun_whole : (first count : ℕ) → AreWhole (map beginning_of (range_with_len first count))
begun_whole first zero = tt
begun_whole first (suc count) = (tt, begun_whole (first + 1) count)

arrived_whole : (start links first count : ℕ) → AreWhole (map (arrival_of start links) (range_with_len first count))
arrived_whole start links first zero = tt
arrived_whole start links first (suc count) = ((request_whole (drawn start first), tt), arrived_whole start links (first + 1) count)

-- ---- what arrives with them

none_with_begun : (first count : ℕ) → flat_map arrived_with (map beginning_of (range_with_len first count)) ≡ []
none_with_begun first zero = refl
none_with_begun first (suc count) = none_with_begun (first + 1) count

all_with_arrivals : (start links first count : ℕ) →
    flat_map arrived_with (map (arrival_of start links) (range_with_len first count)) ≡ map (arrived_of start links) (range_with_len first count)
all_with_arrivals start links first zero = refl
all_with_arrivals start links first (suc count) =
    ap₂ (λ (xs ys : List Arrived). xs ++ ys)
    (ap (λ (hs : List Heard). map (arrived_at (first % links) (first / 8)) hs) (append-nil (items (request_of (drawn start first)) false) ∙ request_alone (drawn start first)))
    (all_with_arrivals start links (first + 1) count)

pub load_items : (start count : ℕ) → all.arrivals (soak_records start count) ≡ map (arrived_of start (soak_links count)) (range_with_len 0 count)
unfolding soak_records
load_items start count =
    let links = soak_links count in
    all_arrived (beginnings links ++ arrivals start links count)
    (both_whole (beginnings links) (arrivals start links count) (begun_whole 0 links) (arrived_whole start links 0 count))
    ∙ flat_map-append arrived_with (beginnings links) (arrivals start links count)
    ∙ ap₂ (λ (xs ys : List Arrived). xs ++ ys) (none_with_begun 0 links) (all_with_arrivals start links 0 count)

pub load_count : (start count : ℕ) → length (all.arrivals (soak_records start count)) ≡ count
load_count start count =
    ap (λ (arrived : List Arrived). length arrived) (load_items start count) ∙ length-map-range_with_len (arrived_of start (soak_links count)) 0 count

pub load_fits : (start count : ℕ) → count ≤ 4096 → has_too_many (soak_records start count) ≡ false
load_fits start count few = le-ltb 4096 (length (all.arrivals (soak_records start count))) (omega (arith, load_count start count, few))
