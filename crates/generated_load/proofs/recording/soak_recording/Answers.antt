-- One request more, and all requests.
use Rattle.std.proofs.Common.{◌≡◌, ◌/◌, ◌++◌, ap, ◌∙◌, arith}
use Rattle.recording_format.specs.Standing.{Standing, standing_behind}
use Rattle.generated_load.specs.Generator.{drawn}
use Rattle.generated_load.specs.Requests.{request_of}
use Rattle.generated_load.specs.Recording.{arrivals, beginnings, soak_records}
use Rattle.generated_load.proofs.Arrivals.{drawn_there, one_more_arrival, one_step}
use Rattle.generated_load.proofs.Opened.{next_arrives}
use Rattle.generated_load.proofs.recording.soak_recording.Goals as goal

pub push-requires : goal.push-requires
push-requires c =
    next_arrives (standing_behind c.loop-place.recording) c.min-links.result c.loop-place.place c.new.result
    (omega (arith, c.min-links.ensures, c.requires.some)) (omega (arith, c.min-links.ensures)) c.loop-place.invariant.last c.loop-place.invariant.links

pub loop-place-preserved : goal.loop-place-preserved
loop-place-preserved c =
    let number = drawn_there c.args.start c.loop-place.place c.loop-place.generator.state c.draw.new.self.state c.draw.result c.loop-place.invariant.state c.draw.ensures.steps c.draw.ensures.drawn in
    let piece : c.new.result ≡ request_of (drawn c.args.start c.loop-place.place) = c.new.ensures ∙ (c.in_ok-piece.ensures ∙ ap request_of number) in
    let last : (standing_behind c.push.new.self).last ≡ c.loop-place.place / 8 = ap (λ (s : Standing). s.last) c.in_ok-push.ensures.stands in
    record {
      records =
          c.in_ok-push.ensures.ok
          ∙ one_more_arrival c.args.start c.min-links.result c.loop-place.place c.new.result c.loop-place.recording c.loop-place.invariant.records piece;
      state = one_step c.args.start c.loop-place.place c.loop-place.generator.state c.draw.new.self.state c.loop-place.invariant.state c.draw.ensures.steps;
      last = omega (arith, last);
      links = ap (λ (s : Standing). s.links) c.in_ok-push.ensures.stands ∙ c.loop-place.invariant.links;
    }

pub returns : goal.returns
unfolding soak_records
returns c =
    let all : c.loop-place.place ≡ c.args.count = omega arith in
    record { records = c.loop-place.invariant.records ∙ (λ i. beginnings (c.min-links.ensures i) ++ arrivals c.args.start (c.min-links.ensures i) (all i)) }
