use Rattle.std.proofs.Common.{◌≡◌, ℕ, ◌<◌, List, [], ◌∷◌, ◌++◌, length, map, get_or, set, refl, sym, ap, subst, ◌∙◌, arith}
use Rattle.std.proofs.lemmas.List.{map-append, get_or_default}
use Rattle.std.proofs.lemmas.Iterator.Adapters.{YieldsList-from_vec}
use Rattle.std.proofs.lemmas.Iterator.Consumers.{YieldsList-turn}
use Rattle.admission.specs.Bucket.{Bucket}
use Rattle.admission.specs.Metering.{behind_all}
use Rattle.recorded_arrivals.specs.Arrivals.{Arrived}
use Rattle.http_items.specs.Items.{IsWithin}
use Rattle.recorded_arrivals.specs.Seen.{arrival_seen}
use Rattle.recorded_runner.specs.Fates.{no_meter, asked_of, decided_behind}
use Rattle.recorded_runner.specs.Seen.{decided_seen}
use Rattle.recorded_runner.proofs.FateLaws.{AreMetered, metered_more, decided_next}
use Rattle.recorded_runner.proofs.RouteLaws.{all_read, mapped_read}
use Rattle.recorded_runner.proofs.deciding.decide_all.Goals as goal

pub bounds-owners-arrival : goal.bounds-owners-arrival
bounds-owners-arrival c =
    let turn = YieldsList-turn (YieldsList-from_vec {s = c.into_iter-arrival-iterator.result} c.args.arrived.items c.into_iter-arrival-iterator.ensures.into_iter_gives.0 (c.into_iter-arrival-iterator.ensures.into_iter_gives.1 ∙ c.args.arrived.ok.0))
    c.loop-arrival.yielded c.loop-arrival.arrival-iterator c.loop-arrival.yielded_by c.next.result c.next.new.self c.in-Some.arrival c.in-Some.is c.next.ensures.steps in
    mapped_read arrival_seen (λ (a : Arrived). a.link < length c.args.owners.now) c.args.arrived.items (length c.loop-arrival.yielded) c.in-Some.arrival c.requires.begun turn.0 turn.1

pub decide-requires-clause-within : goal.decide-requires-clause-within
decide-requires-clause-within c =
    let turn = YieldsList-turn (YieldsList-from_vec {s = c.into_iter-arrival-iterator.result} c.args.arrived.items c.into_iter-arrival-iterator.ensures.into_iter_gives.0 (c.into_iter-arrival-iterator.ensures.into_iter_gives.1 ∙ c.args.arrived.ok.0))
    c.loop-arrival.yielded c.loop-arrival.arrival-iterator c.loop-arrival.yielded_by c.next.result c.next.new.self c.in-Some.arrival c.in-Some.is c.next.ensures.steps in
    mapped_read arrival_seen (λ (a : Arrived). IsWithin a.heard) c.args.arrived.items (length c.loop-arrival.yielded) c.in-Some.arrival c.requires.within turn.0 turn.1

pub loop-arrival-preserved : goal.loop-arrival-preserved
loop-arrival-preserved c =
    let turn = YieldsList-turn (YieldsList-from_vec {s = c.into_iter-arrival-iterator.result} c.args.arrived.items c.into_iter-arrival-iterator.ensures.into_iter_gives.0 (c.into_iter-arrival-iterator.ensures.into_iter_gives.1 ∙ c.args.arrived.ok.0))
    c.loop-arrival.yielded c.loop-arrival.arrival-iterator c.loop-arrival.yielded_by c.next.result c.next.new.self c.in-Some.arrival c.in-Some.is c.next.ensures.steps in
    let tenants = c.args.config.now.tenants in
    let owners = c.args.owners.now in
    let a : Arrived = arrival_seen c.in-Some.arrival in
    let owner = get_or owners c.in-Some.arrival.link 0 in
    let meters = c.loop-arrival.meters.items in
    let m = c.loop-arrival.invariant.metered in
    let before = map arrival_seen c.loop-arrival.yielded in
    let begun : c.in-Some.arrival.link < length owners = mapped_read arrival_seen (λ (b : Arrived). b.link < length owners) c.args.arrived.items (length c.loop-arrival.yielded) c.in-Some.arrival c.requires.begun turn.0 turn.1 in
    let known : owner < length tenants = all_read (λ (o : ℕ). o < length tenants) owners c.in-Some.arrival.link 0 c.requires.owned begun in
    let within : owner < length meters = omega (arith, known, m.one_each) in
    let meter : c.index_mut.result.now ≡ get_or meters owner no_meter = c.index_mut.ensures.value ∙ get_or_default meters owner c.index_mut.result.now no_meter within in
    let seen : map arrival_seen (c.loop-arrival.yielded ++ c.in-Some.arrival ∷ []) ≡ before ++ a ∷ [] = map-append arrival_seen c.loop-arrival.yielded (c.in-Some.arrival ∷ []) in
    let asked = c.decide.ensures.asked ∙ ap (λ (b : Bucket). behind_all b (asked_of tenants owner a.moment a.heard)) meter in
    let pushed = ap (λ ds. map decided_seen ds) c.in_ok-push.ensures.items ∙ map-append decided_seen c.loop-arrival.decided.items (c.decide.result ∷ []) in
    let next = decided_next tenants owners before a meters c.index_mut.result.now (map decided_seen c.loop-arrival.decided.items) (map decided_seen c.push.new.self.items) (decided_seen c.decide.result)
    m known meter c.loop-arrival.invariant.decided c.decide.ensures.decided pushed in
    record {
      can_next = tt;
      is_finite = tt;
      metered = subst (λ (items : List Arrived). AreMetered tenants owners items (set meters owner c.decide.new.meter)) (sym seen) (metered_more tenants owners owner before a meters c.decide.new.meter m refl known asked);
      decided = next ∙ ap (λ (items : List Arrived). decided_behind tenants owners [] items) (sym seen);
    }
