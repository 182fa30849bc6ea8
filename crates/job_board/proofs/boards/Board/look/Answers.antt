use Rattle.std.proofs.Common.{◌<◌, rules, arith}
use Rattle.job_board.proofs.Stepping.{looks}
use Rattle.job_board.proofs.boards.Board.look.Goals as goal

pub load-requires : goal.load-requires
load-requires g c =
    let inside : c.args.place < c.self.inside.table.shared.table_id.words = search rules in
    (search rules, inside, looks g.J.Placed.place_of g.J.Placed.kind_of g.J.Placed.turns_of (λ q f j. g.J.Placed.belongs q (g.J.Placed.request_of f) j) _ _ _ _ _ c.pass.invariant.0 (omega (arith, inside, c.self.invariant.0)))
