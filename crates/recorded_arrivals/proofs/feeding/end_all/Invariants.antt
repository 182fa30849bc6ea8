use Rattle.std.proofs.Common.{◌≡◌, ℕ, List, ◌++◌, length, map, take}
use Rattle.recording_format.specs.declared.records.Record.{Record}
use Rattle.recording_format.specs.Standing.{standing_behind}
use Rattle.recorded_arrivals.specs.Arrivals.{endings_from}
use Rattle.recorded_arrivals.specs.Feeding.{AreFed}
use Rattle.recorded_arrivals.specs.Seen.{arrival_seen}
use Rattle.recorded_arrivals.proofs.feeding.end_all.Given as goal

abbrev pub invariant-loop-front : goal.invariant-loop-front
invariant-loop-front l = record {
  can_next : (goal.iterator-loop-front).can_next l.front-iterator;
  is_finite : (goal.iterator-loop-front).is_finite l.front-iterator;
  counted : l.link ≡ length l.yielded;
  told : (records : List Record) (owners : List ℕ) → AreFed 0 records l.fn.fronts.items → length l.fn.fronts.items ≡ length owners → l.moment ≡ (standing_behind records).last
      → map arrival_seen l.arrived.items ≡ map arrival_seen l.fn.arrived.items ++ endings_from 0 (take (length l.yielded) owners) records;
}
