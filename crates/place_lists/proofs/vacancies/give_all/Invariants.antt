use Rattle.std.proofs.Common.{◌≡◌, ◌-◌}
use Rattle.place_lists.specs.Keeping.{counted_from}
use Rattle.place_lists.specs.Vacating.{IsPassOf}
use Rattle.place_lists.proofs.vacancies.give_all.Given as goal

abbrev pub invariant-loop-place : goal.invariant-loop-place
invariant-loop-place g l = IsPassOf l.vacancies l.pass × (l.pass.out ≡ counted_from l.place (256 - l.place))
