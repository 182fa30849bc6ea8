use Rattle.std.proofs.Common.{◌≡◌, ◌+◌, rules, sym, ap, subst, ◌∙◌}
use Rattle.job_board.specs.Boarding.{IsPassOf, noting}
use Rattle.worker_desks.specs.Parts.{Pass, PassesOver, FindsOther}
use Rattle.worker_desks.proofs.Walks.{passes-seen, passes-missed, finds-own, finds-free}
use Rattle.worker_desks.proofs.claims.take_over.Goals as goal

pub loop-place-preserved : goal.loop-place-preserved
loop-place-preserved c =
    let kept = c.loop-place.invariant in
    let place = c.loop-place.place in
    let seen = c.look-seen.result in
    let looked : Pass = noting c.loop-place.pass place seen in
    let other : FindsOther looked c.resume_at.new.pass place seen = subst (λ (p : Pass). FindsOther p c.resume_at.new.pass place seen) c.look-seen.ensures.noted c.in-None.ensures.claimed in record {
      own = finds-own c.args.board.now looked c.resume_at.new.pass place seen kept.own other;
      free = finds-free looked c.resume_at.new.pass place seen kept.free other;
      over = passes-missed place c.args.pass.now c.loop-place.pass c.resume_at.new.pass seen kept.over c.in-Suspended.is other;
    }

pub loop-place-preserved-in_default : goal.loop-place-preserved-in_default
loop-place-preserved-in_default c =
    let kept = c.loop-place.invariant in
    let place = c.loop-place.place in
    let seen = c.look-seen.result in record {
      own = subst (IsPassOf c.args.board.now) (sym c.look-seen.ensures.noted) kept.own;
      free = ap (λ (p : Pass). p.held) c.look-seen.ensures.noted ∙ kept.free;
      over = subst (PassesOver (place + 1) c.args.pass.now) (sym c.look-seen.ensures.noted) (passes-seen place c.args.pass.now c.loop-place.pass seen kept.over c.in_default.not-Suspended);
    }
