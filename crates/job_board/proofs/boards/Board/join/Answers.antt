use Rattle.std.proofs.Common.{rules}
use Rattle.job_board.proofs.Stepping.{unites}
use Rattle.job_board.proofs.boards.Board.join.Goals as goal

pub join_seat-requires : goal.join_seat-requires
join_seat-requires g c =
    (search rules, search rules, search rules, search rules, unites g.J.Placed.place_of g.J.Placed.kind_of g.J.Placed.turns_of (λ q f j. g.J.Placed.belongs q (g.J.Placed.request_of f) j) _ _ _ _ _ c.pass.invariant.0 (search rules))
