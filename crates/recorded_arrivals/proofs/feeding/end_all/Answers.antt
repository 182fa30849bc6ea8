use Rattle.std.proofs.Common.{◌≡◌, ◌<◌, [], ◌∷◌, ◌++◌, length, map, take, get_or, ap, arith, ◌∙◌, sym}
use Rattle.std.proofs.lemmas.List.{length_push}
use Rattle.std.proofs.lemmas.Iterator.Adapters.{YieldsList-from_vec}
use Rattle.std.proofs.lemmas.Iterator.Consumers.{YieldsList-turn, YieldsList-end}
use Rattle.http_front.specs.Views.{heard_of}
use Rattle.recorded_arrivals.specs.Arrivals.{endings_from}
use Rattle.recorded_arrivals.specs.Seen.{arrival_seen}
use Rattle.recorded_arrivals.proofs.FeedingLaws.{ended_next, ended_all}
use Rattle.recorded_arrivals.proofs.feeding.end_all.Goals as goal

pub overflow_add-link : goal.overflow_add-link
overflow_add-link c =
    let turn = YieldsList-turn (YieldsList-from_vec {s = c.into_iter-front-iterator.result} c.args.fronts.items c.into_iter-front-iterator.ensures.into_iter_gives.0 (c.into_iter-front-iterator.ensures.into_iter_gives.1 ∙ c.args.fronts.ok.0))
    c.loop-front.yielded c.loop-front.front-iterator c.loop-front.yielded_by c.next.result c.next.new.self c.in-Some.front c.in-Some.is c.next.ensures.steps in
    omega (arith, turn.0, c.loop-front.invariant.counted, c.requires.few)

pub loop-front-preserved : goal.loop-front-preserved
loop-front-preserved c =
    let turn = YieldsList-turn (YieldsList-from_vec {s = c.into_iter-front-iterator.result} c.args.fronts.items c.into_iter-front-iterator.ensures.into_iter_gives.0 (c.into_iter-front-iterator.ensures.into_iter_gives.1 ∙ c.args.fronts.ok.0))
    c.loop-front.yielded c.loop-front.front-iterator c.loop-front.yielded_by c.next.result c.next.new.self c.in-Some.front c.in-Some.is c.next.ensures.steps in
    let size = length_push c.loop-front.yielded c.in-Some.front in
    let fronts = c.args.fronts.items in
    let link = c.loop-front.link in
    let counted : link ≡ length c.loop-front.yielded = c.loop-front.invariant.counted in
    let below : link < length fronts = omega (arith, turn.0, counted) in
    let is : c.in-Some.front ≡ get_or fronts link c.in-Some.front = turn.1 ∙ ap (λ n. get_or fronts n c.in-Some.front) (sym counted) in
    let first = map arrival_seen c.args.arrived.now.items in
    record {
      can_next = tt;
      is_finite = tt;
      counted = omega (arith, size, counted);
      told = λ records owners fed same last. ended_next records owners fronts link (length (c.loop-front.yielded ++ c.in-Some.front ∷ [])) c.args.moment c.in-Some.front (map heard_of c.in_ok-finish.field-0.items)
          first (map arrival_seen c.loop-front.arrived.items) (map arrival_seen c.append.new.arrived.items)
          fed same last below is c.in_ok-finish.ensures.given (omega (arith, size, counted))
          (c.loop-front.invariant.told records owners fed same last ∙ ap (λ n. first ++ endings_from 0 (take n owners) records) (sym counted))
          c.in_ok-append.ensures;
    }

pub returns : goal.returns
returns c = λ records owners fed same last.
    let end = YieldsList-end (YieldsList-from_vec {s = c.into_iter-front-iterator.result} c.args.fronts.items c.into_iter-front-iterator.ensures.into_iter_gives.0 (c.into_iter-front-iterator.ensures.into_iter_gives.1 ∙ c.args.fronts.ok.0))
    c.loop-front.yielded c.loop-front.front-iterator c.loop-front.yielded_by c.next.result c.next.new.self c.in-None.is c.next.ensures.steps in
    ended_all records owners (length c.loop-front.yielded) (map arrival_seen c.args.arrived.now.items) (map arrival_seen c.loop-front.arrived.items) (omega (arith, end.1, same)) (c.loop-front.invariant.told records owners fed same last)
