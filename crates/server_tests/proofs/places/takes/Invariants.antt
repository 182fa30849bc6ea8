use Rattle.place_lists.specs.Vacating.{IsPassOf}
use Rattle.server_tests.proofs.places.takes.Given as goal

abbrev pub invariant-loop-place : goal.invariant-loop-place
invariant-loop-place g l = IsPassOf l.vacancies l.pass
