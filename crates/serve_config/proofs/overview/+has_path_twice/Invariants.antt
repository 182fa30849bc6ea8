-- Each call has one route less to look at.
use Rattle.std.proofs.Common.{length}
use Rattle.serve_config.proofs.overview.+has_path_twice.Given as goal

abbrev pub decreases-has_path_twice : goal.decreases-has_path_twice
decreases-has_path_twice l = length l.routes.now
