use Rattle.std.proofs.Common.{◌≡◌, rules, replicate, ap, ◌∙◌}
use Rattle.job_board.proofs.Opening.{begins_vacant}
use Rattle.job_board.proofs.boards.Board.vacant.Goals as goal

pub vacant-requires : goal.vacant-requires
vacant-requires g c =
    let words : c.as_slice.result.now ≡ replicate c.args.places 0 = search rules in
    rw (c.of.ensures, c.new-room.ensures.items) (begins_vacant g.J.Placed.place_of g.J.Placed.kind_of g.J.Placed.turns_of (λ q f j. g.J.Placed.belongs q (g.J.Placed.request_of f) j) c.args.places _ words)
