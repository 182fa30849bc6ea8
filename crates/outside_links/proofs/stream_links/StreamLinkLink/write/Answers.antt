use Rattle.std.proofs.Common.{◌++◌, ◌∙◌, take}
use Rattle.std.proofs.KnownBytes.{Appends-trans, Keeps-refl}
use Rattle.outside_links.proofs.Streams.{sent_front, sent_more}
use Rattle.outside_links.proofs.stream_links.StreamLinkLink.write.Goals as goal

pub returns-in_default-clause-some : goal.returns-in_default-clause-some
returns-in_default-clause-some g c =
    sent_front _ _ _ _ _ _ c.loop.invariant.split c.loop.invariant.gained (rw c.fail.ensures.counted c.in_default.ensures.none)

pub loop-preserved : goal.loop-preserved
loop-preserved g c = record {
  sent = c.loop.invariant.sent ++ take c.in-Some.count c.loop.rest.now;
  split = rw c.split_at.ensures.back (sent_more _ _ _ c.in-Some.count c.loop.invariant.split);
  gained = Appends-trans _ _ _ _ _ c.loop.invariant.gained c.in-Some.ensures.some;
  ended = c.write_some.ensures.ended ∙ c.loop.invariant.ended;
  used = c.write_some.ensures.used ∙ c.loop.invariant.used;
  faults = c.write_some.ensures.faults ∙ c.loop.invariant.faults;
}

pub returns-clause-some : goal.returns-clause-some
returns-clause-some g c =
    sent_front _ _ _ _ _ _ c.loop.invariant.split c.loop.invariant.gained (rw c.fail-2.ensures.counted (Keeps-refl _))
