use Rattle.std.proofs.Common.{◌≡◌, rules, replicate, length, ap, ◌∙◌}
use Rattle.job_board.proofs.Opening.{starts}
use Rattle.job_board.proofs.boards.Board.new.Goals as goal

pub new-requires : goal.new-requires
new-requires g c =
    let words : c.as_slice.result.now ≡ replicate (length c.args.jobs.items) 1 = search rules in
    rw c.of.ensures (starts g.J.Placed.place_of g.J.Placed.kind_of g.J.Placed.turns_of (λ q f j. g.J.Placed.belongs q (g.J.Placed.request_of f) j) c.args.quantum c.args.jobs.items _ _ words c.in_ok-slots.ensures c.requires.jobs (λ job waits. g.met.J.Placed.waits c.args.quantum job waits))
