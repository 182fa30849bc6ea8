use Rattle.place_lists.proofs.Keeping.{takes}
use Rattle.place_lists.proofs.vacancies.Vacancies.try_take.Goals as goal

pub pop_as-requires-clause-rule : goal.pop_as-requires-clause-rule
pop_as-requires-clause-rule g c = (takes _ _, (λ items views rule at. tt))
