use Rattle.std.proofs.Common.{◌≡◌, ◌≤◌, length, vec_capacity}
use Rattle.job_board.specs.Ends.{AreUnbegun}
use Rattle.library_tests.specs.declared.boards.jobs.Job.{Job}
use Rattle.library_tests.proofs.boards.all_waiting.Given as goal

abbrev pub invariant-loop-place : goal.invariant-loop-place
invariant-loop-place l =
    (length l.jobs.items ≡ l.place) × (l.places ≤ vec_capacity l.jobs) × AreUnbegun (λ (job : Job). job.place) (λ (job : Job). job.kind) (λ (job : Job). job.turns) l.jobs.items
