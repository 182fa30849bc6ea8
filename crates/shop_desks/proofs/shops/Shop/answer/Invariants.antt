use Rattle.shop_desks.specs.Asking.{KeepsOthers}
use Rattle.shop_desks.specs.Shops.{IsVisitOf}
use Rattle.shop_desks.proofs.shops.Shop.answer.Given as goal

abbrev pub invariant-loop : goal.invariant-loop
invariant-loop g l =
    (goal.iterator-loop g).can_next l.iterator' × (goal.iterator-loop g).is_finite l.iterator' × IsVisitOf l.self l.visit × KeepsOthers l.fn.visit l.visit
