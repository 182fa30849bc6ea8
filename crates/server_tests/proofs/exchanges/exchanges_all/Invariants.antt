use Rattle.std.proofs.Common.{◌≡◌, length}
use Rattle.shop_desks.specs.Shops.{IsVisitOf}
use Rattle.server_tests.proofs.exchanges.exchanges_all.Given as goal

abbrev pub invariant-loop-round : goal.invariant-loop-round
invariant-loop-round g l = IsVisitOf l.shop l.visit × (length l.shop.meters ≡ 1)
