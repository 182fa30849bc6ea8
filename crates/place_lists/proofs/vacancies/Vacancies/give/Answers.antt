use Rattle.std.proofs.Common.{sym, subst}
use Rattle.place_lists.proofs.Keeping.{gives, has_room}
use Rattle.place_lists.specs.Vacating.{PassView, HasLast}
use Rattle.place_lists.proofs.vacancies.Vacancies.give.Goals as goal

pub push_as-requires-clause-rule : goal.push_as-requires-clause-rule
push_as-requires-clause-rule g c =
    (gives _ _ _ _ (subst (λ (p : PassView). HasLast c.args.place p.out) (sym c.pass.view_is) c.requires.last), has_room _ _)
