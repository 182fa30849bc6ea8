use Rattle.std.proofs.Common.{◌≡◌}
use Rattle.place_lists.specs.Vacating.{IsPassOf}
use Rattle.place_lists.proofs.vacancies.Vacancies.take.Given as goal

abbrev pub invariant-loop : goal.invariant-loop
invariant-loop g l =
    (goal.iterator-loop g).can_next l.iterator' × (goal.iterator-loop g).is_finite l.iterator' × IsPassOf l.self l.pass × (l.pass ≡ l.fn.pass)
