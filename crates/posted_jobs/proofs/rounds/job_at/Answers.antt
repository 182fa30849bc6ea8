use Rattle.std.proofs.Common.{sym, subst}
use Rattle.posted_jobs.specs.Rounds.{Pass, Refuses, Claims}
use Rattle.posted_jobs.proofs.Walks.{stopped_job, waiting_job, refuses_idle, refuses_berthless}
use Rattle.posted_jobs.proofs.rounds.job_at.Goals as goal

pub returns-in-Suspended : goal.returns-in-Suspended
returns-in-Suspended c =
    let seen = c.look-seen.result in
    stopped_job c.args.berth 4294967295 c.args.place c.args.pass.now c.claim_at.new.pass seen c.claim_at.result c.in-Suspended.is
    (subst (λ (p : Pass). Claims 4294967295 c.args.place seen p c.claim_at.new.pass c.claim_at.result) c.look-seen.ensures.noted c.claim_at.ensures)

pub returns-in-Some : goal.returns-in-Some
returns-in-Some c =
    let seen = c.look-seen.result in
    waiting_job c.args.berth c.in-Some.room c.args.place c.args.pass.now c.claim_at-in-Some.new.pass seen c.claim_at-in-Some.result c.in-Waiting.is c.in-Some.is
    (subst (λ (p : Pass). Claims c.in-Some.room c.args.place seen p c.claim_at-in-Some.new.pass c.claim_at-in-Some.result) c.look-seen.ensures.noted c.claim_at-in-Some.ensures)

pub returns-in-None : goal.returns-in-None
returns-in-None c =
    subst (Refuses c.args.berth c.args.place c.args.pass.now) (sym c.look-seen.ensures.noted) (refuses_berthless c.args.berth c.args.place c.args.pass.now c.look-seen.result c.in-Waiting.is c.in-None.is)

pub returns-in_default : goal.returns-in_default
returns-in_default c =
    subst (Refuses c.args.berth c.args.place c.args.pass.now) (sym c.look-seen.ensures.noted) (refuses_idle c.args.berth c.args.place c.args.pass.now c.look-seen.result c.in_default.not-Suspended c.in_default.not-Waiting)
