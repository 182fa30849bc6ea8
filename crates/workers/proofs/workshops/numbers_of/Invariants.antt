use Rattle.std.proofs.Common.{◌≡◌, ◌<◌, ◌≤◌, length}
use Rattle.std.specs.List.{All}
use Rattle.std.specs.Prelude.{vec_capacity}
use Rattle.workers.proofs.workshops.numbers_of.Given as goal

abbrev pub invariant-loop-number : goal.invariant-loop-number
invariant-loop-number l = record {
  below : All (λ number. number < l.count) l.numbers.items;
  count : length l.numbers.items ≡ l.number;
  room : l.count ≤ vec_capacity l.numbers;
}
