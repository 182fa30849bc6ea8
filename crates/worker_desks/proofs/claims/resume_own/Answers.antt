use Rattle.std.proofs.Common.{◌≡◌, subst, ◌∙◌}
use Rattle.job_board.specs.Boarding.{places_of}
use Rattle.run_queues.specs.Serving.{Takes}
use Rattle.run_queues.specs.declared.policies.Policy.{Policy}
use Rattle.worker_desks.specs.Sharing.{IsEntryOf}
use Rattle.worker_desks.proofs.Entries.{all-left}
use Rattle.worker_desks.proofs.Walks.{drops-more, finds-own, finds-free}
use Rattle.worker_desks.proofs.claims.resume_own.Goals as goal

pub entries-preserved : goal.entries-preserved
entries-preserved c =
    let kept = c.entries.invariant in
    let takes : Takes c.args.local.now.policy c.entries.local.entries c.next.new.self.entries c.in-Some.entry = subst (λ (p : Policy). Takes p c.entries.local.entries c.next.new.self.entries c.in-Some.entry) kept.policy c.in-Some.ensures.some in
    let other = c.in-None.ensures.claimed in record {
      own = finds-own _ _ _ _ _ kept.own other;
      free = finds-free _ _ _ _ kept.free other;
      inside = all-left (IsEntryOf (places_of c.args.board.now)) _ _ _ _ takes kept.inside;
      dropped = drops-more _ _ _ _ _ _ _ c.in-Some.entry kept.dropped takes other;
      policy = c.next.ensures.queue.0 ∙ kept.policy;
      room = c.next.ensures.queue.1 ∙ kept.room;
    }
