use Rattle.std.proofs.Common.{◌≡◌, List, [], ◌∷◌, ◌++◌, length, map, sym, ap, ap₂, subst, ◌∙◌, arith}
use Rattle.std.proofs.lemmas.List.{length-map, map-append}
use Rattle.std.proofs.lemmas.Iterator.Adapters.{YieldsList-from_vec}
use Rattle.std.proofs.lemmas.Iterator.Consumers.{YieldsList-turn}
use Rattle.std.specs.Arc.{arc_value}
use Rattle.serve_config.specs.Loaded.{programs_in}
use Rattle.serve_config.specs.Routing.{all_routes}
use Rattle.recorded_runner.specs.Batch.{IsJobOf, AreJobsOf}
use Rattle.recorded_runner.specs.Fates.{Decided}
use Rattle.recorded_runner.specs.Seen.{awaited_seen, decided_seen}
use Rattle.recorded_runner.specs.Serving.{IsServable}
use Rattle.recorded_runner.proofs.BatchLaws.{as_few, jobs_more, numbered_more}
use Rattle.recorded_runner.proofs.RouteLaws.{as_many, mapped_read}
use Rattle.recorded_runner.proofs.batching.batch_of.Goals as goal

pub add_job-requires-clause-each : goal.add_job-requires-clause-each
add_job-requires-clause-each c = sym (length-map c.args.programs.now arc_value) ∙ as_many (all_routes c.args.config.now.tenants) (programs_in c.args.programs.now) c.requires.programs

pub add_job-requires-clause-servable : goal.add_job-requires-clause-servable
add_job-requires-clause-servable c =
    let turn = YieldsList-turn (YieldsList-from_vec {s = c.into_iter-item-iterator.result} c.args.decided.items c.into_iter-item-iterator.ensures.into_iter_gives.0 (c.into_iter-item-iterator.ensures.into_iter_gives.1 ∙ c.args.decided.ok.0))
    c.loop-item.yielded c.loop-item.item-iterator c.loop-item.yielded_by c.next.result c.next.new.self c.in-Some.item c.in-Some.is c.next.ensures.steps in
    mapped_read decided_seen (λ (d : Decided). IsServable c.args.config.now.tenants d.fate) c.args.decided.items (length c.loop-item.yielded) c.in-Some.item c.requires.servable turn.0 turn.1

pub add_job-requires-clause-few : goal.add_job-requires-clause-few
add_job-requires-clause-few c =
    let turn = YieldsList-turn (YieldsList-from_vec {s = c.into_iter-item-iterator.result} c.args.decided.items c.into_iter-item-iterator.ensures.into_iter_gives.0 (c.into_iter-item-iterator.ensures.into_iter_gives.1 ∙ c.args.decided.ok.0))
    c.loop-item.yielded c.loop-item.item-iterator c.loop-item.yielded_by c.next.result c.next.new.self c.in-Some.item c.in-Some.is c.next.ensures.steps in
    omega (
      arith,
      turn.0,
      c.requires.few,
      length-map c.loop-item.yielded decided_seen,
      as_few (IsJobOf c.args.config.now.tenants (programs_in c.args.programs.now)) (map decided_seen c.loop-item.yielded) c.loop-item.jobs.items c.loop-item.invariant.jobs,
    )

pub loop-item-preserved : goal.loop-item-preserved
loop-item-preserved c =
    let tenants = c.args.config.now.tenants in
    let programs = programs_in c.args.programs.now in
    let done = map decided_seen c.loop-item.yielded in
    let item : Decided = decided_seen c.in-Some.item in
    let seen : map decided_seen (c.loop-item.yielded ++ c.in-Some.item ∷ []) ≡ done ++ item ∷ [] = map-append decided_seen c.loop-item.yielded (c.in-Some.item ∷ []) in
    record {
      can_next = tt;
      is_finite = tt;
      seen =
          ap (λ items. map awaited_seen items) c.in_ok-push.ensures.items
          ∙ map-append awaited_seen c.loop-item.awaited.items (c.in_ok-add_job.field-0 ∷ [])
          ∙ ap₂ (λ (before : List Decided) (one : Decided). before ++ one ∷ []) c.loop-item.invariant.seen c.in_ok-add_job.ensures.seen
          ∙ sym seen;
      jobs = subst (λ (items : List Decided). AreJobsOf tenants programs items c.add_job.new.jobs.items) (sym seen) (jobs_more tenants programs done item c.loop-item.jobs.items c.add_job.new.jobs.items c.loop-item.invariant.jobs c.in_ok-add_job.ensures.jobs);
      numbered = numbered_more tenants programs item.fate c.loop-item.jobs.items c.add_job.new.jobs.items c.loop-item.invariant.numbered c.in_ok-add_job.ensures.jobs;
    }
