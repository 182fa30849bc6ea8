-- Nothing more is due in the state behind the piece.
use Rattle.http_items.proofs.StandingLaws.{all_given}
use Rattle.http_front.proofs.FrontFacts.{quiet_state}
use Rattle.http_front.proofs.front.advance.Goals as goal

pub returns-clause-given : goal.returns-clause-given
returns-clause-given c = all_given _ _ _ _ c.in_ok-done.ensures (quiet_state c.in_ok-done.done.1)
