use Rattle.std.proofs.Common.{◌≡◌, ◌≤◌, ◌∷◌, drop, map, vec_len, deque_len}
use Rattle.outside_links.specs.MemLink.{items_of, pass_empty}
use Rattle.outside_links.proofs.pieces.pass_over.Given as goal

-- so far only empty pieces were passed over
abbrev pub invariant-loop-at : goal.invariant-loop-at
invariant-loop-at l = record {
  within : l.at ≤ vec_len l.piece;
  same : pass_empty (drop l.at l.piece.items ∷ map items_of l.later.items)
      ≡ pass_empty (drop l.fn.at l.fn.piece.items ∷ map items_of l.fn.later.items);
}

abbrev pub decreases-loop-at : goal.decreases-loop-at
decreases-loop-at l = deque_len l.later
