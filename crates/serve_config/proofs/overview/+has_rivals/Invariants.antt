-- Each call has one tenant less to look at.
use Rattle.std.proofs.Common.{length}
use Rattle.serve_config.proofs.overview.+has_rivals.Given as goal

abbrev pub decreases-has_rivals : goal.decreases-has_rivals
decreases-has_rivals l = length l.tenants.now
