use Rattle.std.proofs.Common.{◌++◌, take, arith}
use Rattle.std.proofs.KnownBytes.{Appends-trans, Keeps-refl}
use Rattle.outside.proofs.Streams.{GainsPrefix-done, OnErr-anyhow, more_done}
use Rattle.outside.proofs.adapters.StdSinkSink.write.Goals as goal

pub returns-then-is_empty-clause-some : goal.returns-then-is_empty-clause-some
returns-then-is_empty-clause-some g c =
    OnErr-anyhow c.flush.result (GainsPrefix-done _ _ _ _ _ _ c.loop.invariant.split c.loop.invariant.gained c.flush.ensures.kept)

pub returns-in_err-count-clause-some : goal.returns-in_err-count-clause-some
returns-in_err-count-clause-some g c =
    OnErr-anyhow c.from_residual.result (GainsPrefix-done _ _ _ _ _ _ c.loop.invariant.split c.loop.invariant.gained c.in_err-count.ensures.err)

pub loop-preserved : goal.loop-preserved
loop-preserved g c = record {
  done = c.loop.invariant.done ++ take c.in_ok-count.count c.loop.rest.now;
  split = rw c.split_at.ensures.back (more_done _ _ _ c.in_ok-count.count c.loop.invariant.split);
  gained = Appends-trans _ _ _ _ _ c.loop.invariant.gained c.in_ok-count.ensures.ok;
  later = omega arith;
}

pub returns-clause-some : goal.returns-clause-some
returns-clause-some g c =
    GainsPrefix-done _ _ _ _ _ _ c.loop.invariant.split c.loop.invariant.gained (rw c.stuck.ensures.counted (Keeps-refl _))
