-- With how many threads a visit can still be shared.
use Rattle.std.specs.Prelude.{ℕ, ◌+◌, ◌<◌, ◌≤◌}
use Rattle.shop_desks.specs.Shops.{VisitView}

-- so many parts of both passes can be given away, and one of each is left
pub record CanShare (visit : VisitView) (count : ℕ) : Type 0 where
  pub board : count < visit.board_pass.parts
  pub pool : count < visit.pool_pass.parts

-- so many parts of each were given away at most
pub record GivesAway (old new : VisitView) (count : ℕ) : Type 0 where
  pub board : old.board_pass.parts ≤ new.board_pass.parts + count
  pub pool : old.pool_pass.parts ≤ new.pool_pass.parts + count
