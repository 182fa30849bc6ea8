-- The connections of the load are those of its one tenant.
use Rattle.std.proofs.Common.{ℕ, zero, suc, ◌+◌, List, [], ◌∷◌, ◌++◌, arith}
use Rattle.std.specs.Prelude.{map}
use Rattle.std.specs.List.{AllByRecursion, range_with_len}
use Rattle.recording_format.specs.declared.records.Record.{Record}
use Rattle.generated_load.specs.Recording.{IsOwned, arrival_of, arrivals, beginning_of, beginnings, soak_links, soak_records}

abbrev IsOfOne : Record → Type 0
IsOfOne r = IsOwned 1 r.event

joined : (rs others : List Record) → AllByRecursion IsOfOne rs → AllByRecursion IsOfOne others → AllByRecursion IsOfOne (rs ++ others)
joined [] others all more = more
joined (r ∷ rs) others all more = (all.0, joined rs others all.1 more)

each : (make : ℕ → Record) → ((n : ℕ) → IsOfOne (make n)) → (first count : ℕ) → AllByRecursion IsOfOne (map make (range_with_len first count))
each make is first zero = tt
each make is first (suc count) = (is first, each make is (first + 1) count)

pub all_owned : (start count : ℕ) → AllByRecursion (λ (r : Record). IsOwned 1 r.event) (soak_records start count)
unfolding soak_records
all_owned start count =
    joined (beginnings (soak_links count)) (arrivals start (soak_links count) count)
    (each beginning_of (λ n. omega arith) 0 (soak_links count))
    (each (arrival_of start (soak_links count)) (λ n. tt) 0 count)
