use Rattle.std.proofs.Common.{length}
use Rattle.http_front.proofs.headings.+named.Given as goal

abbrev pub decreases-named : goal.decreases-named
decreases-named l = length l.lines.now
