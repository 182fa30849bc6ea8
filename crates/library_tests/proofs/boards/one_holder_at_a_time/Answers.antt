use Rattle.std.proofs.Common.{slice_get, sym, ap, ◌∙◌}
use Rattle.job_board.specs.Boarding.{PassView}
use Rattle.library_tests.specs.declared.boards.jobs.Job.{Job}
use Rattle.library_tests.proofs.boards.one_holder_at_a_time.Goals as goal

pub put_suspended-requires-clause-belongs : goal.put_suspended-requires-clause-belongs
put_suspended-requires-clause-belongs g c =
    let got = c.in-Got.ensures in
    λ fixed.
    let first = got.owned (sym (ap (λ (p : PassView Job). p.terms.fixed) got.holds) ∙ fixed) in
    (first.0, ap (λ (p : PassView Job). slice_get p.terms.jobs 0) got.holds ∙ first.1, c.turned.ensures.3 ∙ first.2)
