use Rattle.std.proofs.Common.{◌≡◌, None}
use Rattle.shop_desks.proofs.working.work_until_dismissed.Given as goal

abbrev pub invariant-loop : goal.invariant-loop
invariant-loop g l =
    (goal.iterator-loop g).can_next l.iterator' × (goal.iterator-loop g).is_finite l.iterator' × (l.desk.shop ≡ l.shop) × (l.desk.shop ≡ l.fn.desk.shop) × (l.desk.out ≡ None)
