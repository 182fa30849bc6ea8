use Rattle.std.proofs.Common.{◌<◌, rules, arith, ap}
use Rattle.job_board.proofs.Putting.{leaves_as}
use Rattle.job_board.specs.Boarding.{PassView}
use Rattle.job_board.proofs.boards.Board.leave.Goals as goal

pub store-requires : goal.store-requires
store-requires g c =
    let inside : c.args.place < c.self.inside.table.shared.table_id.words = search rules in
    let there : c.args.place < c.self.inside.table.shared.table_id.slots = omega (arith, inside, c.self.invariant.0) in (
      search rules,
      inside,
      leaves_as g.J.Placed.place_of g.J.Placed.kind_of g.J.Placed.turns_of (λ q f j. g.J.Placed.belongs q (g.J.Placed.request_of f) j) _ _ _ c.pass.inside.seat.me c.args.pass.now _ (ap (λ (p : PassView g.row.J.Denot). p.held) c.pass.view_is) (ap (λ (p : PassView g.row.J.Denot). p.terms) c.pass.view_is)
          c.requires.held c.requires.open_board c.pass.invariant.0 c.pass.invariant.1 there,
    )
