use Rattle.std.proofs.Common.{rules}
use Rattle.job_board.proofs.Stepping.{cuts}
use Rattle.job_board.proofs.boards.Board.split.Goals as goal

pub split_seat-requires : goal.split_seat-requires
split_seat-requires g c = (search rules, search rules, cuts g.J.Placed.place_of g.J.Placed.kind_of g.J.Placed.turns_of (λ q f j. g.J.Placed.belongs q (g.J.Placed.request_of f) j) _ _ _ (search rules))
