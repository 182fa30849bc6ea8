-- One byte more.
use Rattle.std.proofs.Common.{◌∙◌}
use Rattle.generated_load.proofs.Bodies.{one_more_byte}
use Rattle.generated_load.proofs.requests.add_body.Goals as goal

pub loop-place-preserved : goal.loop-place-preserved
loop-place-preserved c =
    c.in_ok-push.ensures.items ∙ one_more_byte c.args.drawn c.loop-place.place c.args.bytes.now.items c.loop-place.bytes.items c.loop-place.invariant
