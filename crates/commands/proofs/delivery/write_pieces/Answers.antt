use Rattle.std.proofs.Common.{◌≡◌, length, min, arith, rules, sym, ◌∙◌, refl}
use Rattle.outside.proofs.Streams.{OnErr-anyhow}
use Rattle.commands.proofs.Pieces.{append_at, cut_here, cut_more, handed_more, is_empty, is_some, next_behind, next_piece, nothing_left, prefix_at, split_whole}
use Rattle.commands.specs.Pieces.{piece_size}
use Rattle.commands.proofs.delivery.write_pieces.Goals as goal

pub pieces-preserved : goal.pieces-preserved
pieces-preserved g c =
    let whole = split_whole _ c.pieces.rest.now c.split_at.result.0.now c.split_at.result.1.now c.split_at.ensures.front c.split_at.ensures.back in
    let some = is_some c.pieces.rest.now (sym c.is_empty.ensures ∙ c.pieces-test.true) in
    let least : c.min.result ≡ min piece_size (length c.pieces.rest.now) = search rules in
    let front = next_piece c.min.result c.pieces.rest.now c.split_at.result.0.now least c.split_at.ensures.front in
    let back = next_behind c.min.result c.pieces.rest.now c.split_at.result.1.now least c.split_at.ensures.back in
    record {
      all = λ z h. c.pieces.invariant.all z (append_at _ _ z _ _ _ whole c.in_ok-write.ensures.ok h);
      some = λ z h. c.pieces.invariant.some z (prefix_at _ _ z _ _ _ whole c.in_ok-write.ensures.ok h);
      handed = handed_more g.S.Sink.took c.pieces.rest.now c.split_at.result.0.now c.split_at.result.1.now _ _ _ _ some front back c.in_ok-write.ensures.taken c.pieces.invariant.handed;
      cut = cut_more g.S.Sink.took c.pieces.rest.now c.split_at.result.0.now c.split_at.result.1.now _ _ _ _ front back c.in_ok-write.ensures.taken c.pieces.invariant.cut;
      later = omega (arith, c.in_ok-write.ensures.later);
    }

-- a call failed
pub returns-in_err-write-clause-cut : goal.returns-in_err-write-clause-cut
returns-in_err-write-clause-cut g c =
    let some = is_some c.pieces.rest.now (sym c.is_empty.ensures ∙ c.pieces-test.true) in
    let least : c.min.result ≡ min piece_size (length c.pieces.rest.now) = search rules in
    let front = next_piece c.min.result c.pieces.rest.now c.split_at.result.0.now least c.split_at.ensures.front in
    OnErr-anyhow c.from_residual.result (cut_here g.S.Sink.took c.pieces.rest.now c.split_at.result.0.now _ _ _ _ some front c.in_err-write.ensures.taken c.pieces.invariant.cut)

-- at the end nothing is left
pub returns-clause-all : goal.returns-clause-all
returns-clause-all g c =
    c.pieces.invariant.all (g.S.Sink.state c.pieces.sink) (nothing_left _ c.pieces.rest.now (sym c.is_empty.ensures ∙ c.pieces-test.false))

pub returns-clause-handed : goal.returns-clause-handed
returns-clause-handed g c = c.pieces.invariant.handed c.pieces.sink 0 (is_empty c.pieces.rest.now (sym c.is_empty.ensures ∙ c.pieces-test.false), refl)
