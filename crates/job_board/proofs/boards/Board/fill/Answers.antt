use Rattle.std.proofs.Common.{◌<◌, rules, arith}
use Rattle.job_board.proofs.Stepping.{fills}
use Rattle.job_board.proofs.boards.Board.fill.Goals as goal

pub compare_exchange-found-requires : goal.compare_exchange-found-requires
compare_exchange-found-requires g c =
    let inside : c.args.place < c.self.inside.table.shared.table_id.words = search rules in (
      search rules,
      inside,
      fills g.J.Placed.place_of g.J.Placed.kind_of g.J.Placed.turns_of (λ q f j. g.J.Placed.belongs q (g.J.Placed.request_of f) j) _ _ _ _ _ c.pass.invariant.0 (search rules) (search rules) (omega (arith, inside, c.self.invariant.0)),
    )
