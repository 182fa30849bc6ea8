use Rattle.std.proofs.Common.{◌<◌, ◌≡◌, rules, arith, ◌∙◌, ap}
use Rattle.job_board.proofs.Stepping.{claims_as, taken}
use Rattle.job_board.specs.Words.{code_of}
use Rattle.job_board.proofs.boards.Board.claim.Goals as goal

pub compare_exchange-found-requires : goal.compare_exchange-found-requires
compare_exchange-found-requires g c =
    let inside : c.args.place < c.self.inside.table.shared.table_id.words = search rules in (
      search rules,
      inside,
      claims_as g.J.Placed.place_of g.J.Placed.kind_of g.J.Placed.turns_of (λ q f j. g.J.Placed.belongs q (g.J.Placed.request_of f) j) _ _ _ _ _ c.args.seen _ _ c.code-asked.ensures (c.code-laid.ensures ∙ ap code_of c.held.ensures) c.pass.invariant.0 (search rules) (omega (arith, inside, c.self.invariant.0)) c.requires.rests,
    )

pub exchange-requires : goal.exchange-requires
exchange-requires g c =
    let played = c.compare_exchange-found.ensures.2.0 (search rules) in
    (search rules, (_, taken _ _ _ _ _ played.2))
