use Rattle.std.proofs.Common.{◌≡◌, ◌+◌, length}
use Rattle.std.specs.List.{prefix_len}
use Rattle.http_items.specs.Targets.{is_no_question_mark}
use Rattle.http_front.proofs.targets.query_place.Given as goal

abbrev pub invariant-loop-rest : goal.invariant-loop-rest
invariant-loop-rest l = record {
  place : l.place + prefix_len is_no_question_mark l.rest ≡ prefix_len is_no_question_mark l.fn.target;
  within : l.place + length l.rest ≡ length l.fn.target;
}

abbrev pub decreases-loop-rest : goal.decreases-loop-rest
decreases-loop-rest l = length l.rest
