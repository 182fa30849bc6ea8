use Rattle.std.proofs.Common.{length, map}
use Rattle.http_items.specs.Standings.{Goes}
use Rattle.http_front.specs.Views.{heard_of, standing_of}
use Rattle.http_front.proofs.front.take_all.Given as goal

abbrev pub invariant-loop-rest : goal.invariant-loop-rest
invariant-loop-rest l = Goes (standing_of l.initial.state) l.fn.piece (map heard_of l.items.items) (standing_of l.state) l.rest

abbrev pub decreases-loop-rest : goal.decreases-loop-rest
decreases-loop-rest l = length l.rest
