use Rattle.job_board.proofs.Putting.{suspends}
use Rattle.job_board.proofs.boards.Board.put_suspended.Goals as goal

pub put-requires-clause-held : goal.put-requires-clause-held
put-requires-clause-held g c =
    suspends g.J.Placed.place_of g.J.Placed.kind_of g.J.Placed.turns_of (λ q f j. g.J.Placed.belongs q (g.J.Placed.request_of f) j) _ _ _ c.args.job c.requires.held c.requires.kind c.requires.job c.requires.belongs
