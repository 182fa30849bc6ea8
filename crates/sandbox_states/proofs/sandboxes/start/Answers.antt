-- Nothing is paid yet.
use Rattle.std.proofs.Common.{◌≡◌, ℕ, ◌+◌, refl, sym, ap, ◌∙◌, arith}
use Rattle.std.specs.Arc.{arc_value}
use Rattle.sandbox_states.proofs.SoundLaws.{begins_sound, started_is, stands_at_start, in_turns_at_start}
use Rattle.sandbox_states.specs.Views.{AdmittedView, request_of}
use Rattle.sandbox_states.proofs.sandboxes.start.Goals as goal

nothing_more : (n : ℕ) → 0 + n ≡ n
nothing_more n = omega arith

pub invariant_of-result : goal.invariant_of-result
invariant_of-result c =
    begins_sound (arc_value c.job.inside.program) c.fresh.new.vessel c.job.inside.streams c.job.inside.budget (rw (← c.deref.ensures) c.fresh.ensures.begins) c.job.invariant.1 c.job.invariant.0

pub returns-clause-stands : goal.returns-clause-stands
returns-clause-stands c =
    stands_at_start c.args.job.request _
    (ap (λ (b : ℕ). request_of (arc_value c.job.inside.program) c.job.inside.streams b) (nothing_more c.job.inside.budget) ∙ ap (λ (j : AdmittedView). j.request) c.job.view_is) refl

pub returns-clause-in_turns : goal.returns-clause-in_turns
returns-clause-in_turns c quantum =
    in_turns_at_start c.args.job.request quantum _
    (ap (λ (b : ℕ). request_of (arc_value c.job.inside.program) c.job.inside.streams b) (nothing_more c.job.inside.budget) ∙ ap (λ (j : AdmittedView). j.request) c.job.view_is) refl refl

pub returns-clause-started : goal.returns-clause-started
returns-clause-started c =
    started_is (arc_value c.job.inside.program) c.deref.result.now c.deref.ensures c.job.inside.place c.job.inside.deadline c.job.inside.budget c.job.inside.streams c.into_vessel-vessel.result c.fresh.new.vessel
    c.args.job c.args.berth c.job.view_is c.job.invariant.1 c.into_vessel-vessel.ensures.vessel c.fresh.ensures.view
