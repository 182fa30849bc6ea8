use Rattle.place_lists.proofs.Keeping.{splits}
use Rattle.place_lists.proofs.vacancies.Vacancies.split.Goals as goal

pub another-requires-clause-rule : goal.another-requires-clause-rule
another-requires-clause-rule c = splits _ _
