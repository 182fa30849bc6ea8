use Rattle.std.proofs.Common.{rules, sym, ◌∙◌, subst, arith, List, length, ap, length-append, ◌∷◌, []}
use Rattle.job_board.proofs.Opening.{unbegun_push}
use Rattle.job_board.specs.Ends.{AreUnbegun}
use Rattle.library_tests.specs.declared.boards.jobs.Job.{Job}
use Rattle.library_tests.proofs.boards.all_waiting.Goals as goal

pub loop-place-preserved : goal.loop-place-preserved
loop-place-preserved c =
    let inv = c.loop-place.invariant in
    let job = c.waiting.ensures in (
      omega (arith, ap (λ (l : List Job). length l) c.push_reserved.ensures.items, length-append c.loop-place.jobs.items (c.waiting.result ∷ []), inv.0),
      search rules,
      subst (AreUnbegun (λ (j : Job). j.place) (λ (j : Job). j.kind) (λ (j : Job). j.turns)) (sym c.push_reserved.ensures.items)
          (unbegun_push (λ (j : Job). j.place) (λ (j : Job). j.kind) (λ (j : Job). j.turns) c.loop-place.jobs.items c.waiting.result inv.2 (job.0 ∙ sym inv.0) job.1 job.2),
    )
