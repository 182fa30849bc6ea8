use Rattle.posted_jobs.proofs.Walks.{passes_more, refused_own, refused_free}
use Rattle.posted_jobs.proofs.rounds.next_job.Goals as goal

pub loop-place-preserved : goal.loop-place-preserved
loop-place-preserved c =
    let kept = c.loop-place.invariant in
    let old = c.loop-place.pass in
    let new = c.job_at.new.pass in record {
      own = refused_own c.args.board.now c.args.berth c.loop-place.place old new kept.own c.in-None.ensures;
      free = refused_free c.args.berth c.loop-place.place old new kept.free c.in-None.ensures;
      over = passes_more c.args.berth c.loop-place.place c.args.pass.now old new kept.over c.in-None.ensures;
    }
