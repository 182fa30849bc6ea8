use Rattle.std.proofs.Common.{◌≡◌, ℕ, ◌+◌, refl, ap, ◌∙◌, arith}
use Rattle.run_queues.specs.Queue.{Queue}
use Rattle.worker_desks.proofs.Notes.{left-most}
use Rattle.worker_desks.proofs.Returning.{shared-new}
use Rattle.worker_desks.specs.Noted.{notes_due}
use Rattle.worker_desks.proofs.shared_desks.SharedDesk.new.Goals as goal

pub invariant_of-result : goal.invariant_of-result
invariant_of-result c = (
  shared-new _ c.requires.board.0 c.requires.board.1 c.requires.board.2 c.requires.pool c.requires.queue c.requires.drawn c.requires.roomy (ap (λ (q : Queue). q.entries) c.in-Ok.ensures)
      (ap (λ (q : Queue). q.room) c.in-Ok.ensures ∙ ap (λ (n : ℕ). n + 1) c.places-places.ensures.places) c.in-Ok-with_capacity.ensures.items refl refl,
  omega (arith, c.in-Ok-with_capacity.ensures.capacity, c.places-places.ensures.places),
)

pub returns-clause-bound : goal.returns-clause-bound
returns-clause-bound c = left-most _ (notes_due c.args.board_pass)
