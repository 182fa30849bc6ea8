-- More digits make no smaller number.
use Rattle.http_front.proofs.SizeFacts.{too_large}
use Rattle.http_front.proofs.headings.size_in.Goals as goal

pub returns-then-size-gt-MOST_BODY : goal.returns-then-size-gt-MOST_BODY
returns-then-size-gt-MOST_BODY c = too_large c.loop-rest.size c.loop-rest.rest.now _ c.loop-rest.invariant.value c.if-size-gt-MOST_BODY.true
