use Rattle.std.proofs.Common.{◌≡◌, ℕ, ◌+◌, ◌*◌, ◌<◌, List, [], ◌∷◌, ◌++◌, length, map, drop, sym, ap, subst, ◌∙◌, arith}
use Rattle.std.proofs.lemmas.List.{length-map, length-replicate, length_push, map-append}
use Rattle.std.proofs.lemmas.List.Elements.{All-from_recursion}
use Rattle.std.proofs.lemmas.Iterator.Adapters.{YieldsList-from_vec}
use Rattle.std.proofs.lemmas.Iterator.Consumers.{YieldsList-turn}
use Rattle.std.proofs.lemmas.Result.{IfOk-weaker}
use Rattle.std.specs.List.{AllByRecursion, AllZip}
use Rattle.sandbox_states.specs.Views.{AnswerView}
use Rattle.serve_config.specs.Loaded.{programs_in}
use Rattle.workers.specs.Batches.{FitsBerths, IsAnswerTo}
use Rattle.recorded_runner.specs.Batch.{IsJobOf, IsAnswerFor, IsWithinBudgets, AreAnswersFor}
use Rattle.recorded_runner.specs.Fates.{Decided}
use Rattle.recorded_runner.specs.Seen.{awaited_seen, decided_seen}
use Rattle.recorded_runner.specs.Serving.{IsServable}
use Rattle.recorded_runner.specs.Tallies.{IsSmall, IsTallied}
use Rattle.recorded_runner.specs.declared.played.Summary.{Summary}
use Rattle.recorded_runner.proofs.BatchLaws.{as_few, each_own, first_weaker, next_left, of_zipped}
use Rattle.recorded_runner.proofs.RouteLaws.{mapped_read}
use Rattle.recorded_runner.proofs.ServedLaws.{answers_for, request_fits, within_budgets}
use Rattle.recorded_runner.proofs.SizeLaws.{none_within, wider}
use Rattle.recorded_runner.proofs.TallyLaws.{at_first}
use Rattle.recorded_runner.proofs.serving.serve_all.Goals as goal

none_small : IsSmall (record { requests = 0; admitted = 0; started = 0; turns = 0; units = 0 })
none_small = record { requests = omega arith; admitted = omega arith; started = omega arith; turns = omega arith; units = omega arith }

pub run_batch-requires-clause-few : goal.run_batch-requires-clause-few
run_batch-requires-clause-few g c κs within =
    omega (
      arith,
      as_few (IsJobOf c.args.config.now.tenants (programs_in c.args.programs.now)) (map decided_seen c.args.decided.items) c.in_ok-awaited.field-0.jobs.items c.in_ok-awaited.ensures.jobs,
      length-map c.args.decided.items decided_seen,
      c.requires.few,
    )

pub run_batch-requires-clause-pages : goal.run_batch-requires-clause-pages
run_batch-requires-clause-pages g c κs within =
    let tenants = c.args.config.now.tenants in
    let programs = programs_in c.args.programs.now in
    let pages = c.settings_of.result.pages in
    All-from_recursion (FitsBerths pages) c.in_ok-awaited.field-0.jobs.items
    (each_own (IsJobOf tenants programs) (FitsBerths pages) (map decided_seen c.args.decided.items) c.in_ok-awaited.field-0.jobs.items
    (λ entry job made. request_fits pages tenants programs entry.route entry.body job.request c.requires.programs c.settings_of.ensures.roomy made.made) c.in_ok-awaited.ensures.jobs)

pub loop-item-init : goal.loop-item-init
loop-item-init g c =
    let tenants = c.args.config.now.tenants in
    let programs = programs_in c.args.programs.now in
    let quantum = c.args.config.now.quantum in
    let jobs = c.in_ok-awaited.field-0.jobs.items in
    let given : AllZip (IsAnswerTo quantum) jobs c.in_ok-answers.answers.items = subst (λ (q : ℕ). AllZip (IsAnswerTo q) jobs c.in_ok-answers.answers.items) c.settings_of.ensures.quantum c.in_ok-answers.ensures in
    let laid : AllZip (IsAnswerTo quantum) jobs c.from_vec-answers.result.items = subst (λ (answers : List AnswerView). AllZip (IsAnswerTo quantum) jobs answers) (sym c.from_vec-answers.ensures.items) given in
    record {
      can_next = tt;
      is_finite = tt;
      small = subst (λ (s : Summary). IsSmall s) (sym c.nothing.ensures) none_small;
      counted = ap (λ (s : Summary). s.requests) c.nothing.ensures;
      connected = ap (λ rs. length rs) c.in_ok-no_replies.ensures ∙ length-replicate c.args.connections [];
      short = none_within c.args.connections c.in_ok-no_replies.field-0.items c.in_ok-no_replies.ensures;
      tallied = at_first c.args.config.now programs c.args.connections c.in_ok-no_replies.field-0.items c.nothing.result c.in_ok-no_replies.ensures c.nothing.ensures;
      answered = of_zipped (IsJobOf tenants programs) (IsAnswerTo quantum) (IsAnswerFor tenants programs quantum) (map decided_seen c.args.decided.items) jobs c.from_vec-answers.result.items
          (λ entry job answer. answers_for tenants programs quantum entry job answer) c.in_ok-awaited.ensures.jobs laid;
    }

pub serve_next-requires-clause-servable : goal.serve_next-requires-clause-servable
serve_next-requires-clause-servable g c =
    let turn = YieldsList-turn (YieldsList-from_vec {s = c.into_iter-item-iterator.result} c.in_ok-awaited.field-0.awaited.items c.into_iter-item-iterator.ensures.into_iter_gives.0 (c.into_iter-item-iterator.ensures.into_iter_gives.1 ∙ c.in_ok-awaited.field-0.awaited.ok.0))
    c.loop-item.yielded c.loop-item.item-iterator c.loop-item.yielded_by c.next.result c.next.new.self c.in-Some.item c.in-Some.is c.next.ensures.steps in
    let tenants = c.args.config.now.tenants in
    let all : AllByRecursion (λ (d : Decided). IsServable tenants d.fate) (map awaited_seen c.in_ok-awaited.field-0.awaited.items) =
    subst (λ (items : List Decided). AllByRecursion (λ (d : Decided). IsServable tenants d.fate) items) (sym c.in_ok-awaited.ensures.seen) c.requires.servable in
    mapped_read awaited_seen (λ (d : Decided). IsServable tenants d.fate) c.in_ok-awaited.field-0.awaited.items (length c.loop-item.yielded) c.in-Some.item all turn.0 turn.1

pub serve_next-requires-clause-answered : goal.serve_next-requires-clause-answered
serve_next-requires-clause-answered g c =
    let turn = YieldsList-turn (YieldsList-from_vec {s = c.into_iter-item-iterator.result} c.in_ok-awaited.field-0.awaited.items c.into_iter-item-iterator.ensures.into_iter_gives.0 (c.into_iter-item-iterator.ensures.into_iter_gives.1 ∙ c.in_ok-awaited.field-0.awaited.ok.0))
    c.loop-item.yielded c.loop-item.item-iterator c.loop-item.yielded_by c.next.result c.next.new.self c.in-Some.item c.in-Some.is c.next.ensures.steps in
    let tenants = c.args.config.now.tenants in
    let programs = programs_in c.args.programs.now in
    let quantum = c.args.config.now.quantum in
    let left = next_left (IsAnswerFor tenants programs quantum) awaited_seen c.in_ok-awaited.field-0.awaited.items (map decided_seen c.args.decided.items) c.loop-item.yielded c.in-Some.item c.loop-item.answers.items
    c.in_ok-awaited.ensures.seen turn.0 turn.1 c.loop-item.invariant.answered in
    first_weaker (IsAnswerFor tenants programs quantum) IsWithinBudgets (awaited_seen c.in-Some.item).fate c.loop-item.answers.items
    (within_budgets tenants programs quantum c.tenants-tenants.ensures.in_range.tenants c.requests_keep_their_verdict.ensures.within) left.0

pub serve_next-requires-clause-begun : goal.serve_next-requires-clause-begun
serve_next-requires-clause-begun g c =
    let turn = YieldsList-turn (YieldsList-from_vec {s = c.into_iter-item-iterator.result} c.in_ok-awaited.field-0.awaited.items c.into_iter-item-iterator.ensures.into_iter_gives.0 (c.into_iter-item-iterator.ensures.into_iter_gives.1 ∙ c.in_ok-awaited.field-0.awaited.ok.0))
    c.loop-item.yielded c.loop-item.item-iterator c.loop-item.yielded_by c.next.result c.next.new.self c.in-Some.item c.in-Some.is c.next.ensures.steps in
    let all : AllByRecursion (λ (d : Decided). d.link < c.args.connections) (map awaited_seen c.in_ok-awaited.field-0.awaited.items) =
    subst (λ (items : List Decided). AllByRecursion (λ (d : Decided). d.link < c.args.connections) items) (sym c.in_ok-awaited.ensures.seen) c.requires.begun in
    let begun : c.in-Some.item.link < c.args.connections =
    mapped_read awaited_seen (λ (d : Decided). d.link < c.args.connections) c.in_ok-awaited.field-0.awaited.items (length c.loop-item.yielded) c.in-Some.item all turn.0 turn.1 in
    omega (arith, begun, c.loop-item.invariant.connected)

pub serve_next-requires-clause-few : goal.serve_next-requires-clause-few
serve_next-requires-clause-few g c =
    let turn = YieldsList-turn (YieldsList-from_vec {s = c.into_iter-item-iterator.result} c.in_ok-awaited.field-0.awaited.items c.into_iter-item-iterator.ensures.into_iter_gives.0 (c.into_iter-item-iterator.ensures.into_iter_gives.1 ∙ c.in_ok-awaited.field-0.awaited.ok.0))
    c.loop-item.yielded c.loop-item.item-iterator c.loop-item.yielded_by c.next.result c.next.new.self c.in-Some.item c.in-Some.is c.next.ensures.steps in
    omega (
      arith,
      turn.0,
      c.loop-item.invariant.counted,
      c.requires.few,
      ap (λ (items : List Decided). length items) c.in_ok-awaited.ensures.seen,
      length-map c.in_ok-awaited.field-0.awaited.items awaited_seen,
      length-map c.args.decided.items decided_seen,
    )

pub loop-item-preserved : goal.loop-item-preserved
loop-item-preserved g c =
    let turn = YieldsList-turn (YieldsList-from_vec {s = c.into_iter-item-iterator.result} c.in_ok-awaited.field-0.awaited.items c.into_iter-item-iterator.ensures.into_iter_gives.0 (c.into_iter-item-iterator.ensures.into_iter_gives.1 ∙ c.in_ok-awaited.field-0.awaited.ok.0))
    c.loop-item.yielded c.loop-item.item-iterator c.loop-item.yielded_by c.next.result c.next.new.self c.in-Some.item c.in-Some.is c.next.ensures.steps in
    let tenants = c.args.config.now.tenants in
    let programs = programs_in c.args.programs.now in
    let quantum = c.args.config.now.quantum in
    let items = map decided_seen c.args.decided.items in
    let done = map awaited_seen c.loop-item.yielded in
    let item : Decided = awaited_seen c.in-Some.item in
    let seen : map awaited_seen (c.loop-item.yielded ++ c.in-Some.item ∷ []) ≡ done ++ item ∷ [] = map-append awaited_seen c.loop-item.yielded (c.in-Some.item ∷ []) in
    let left = next_left (IsAnswerFor tenants programs quantum) awaited_seen c.in_ok-awaited.field-0.awaited.items items c.loop-item.yielded c.in-Some.item c.loop-item.answers.items
    c.in_ok-awaited.ensures.seen turn.0 turn.1 c.loop-item.invariant.answered in
    let next : IsTallied c.args.config.now programs (done ++ item ∷ []) c.serve_next.new.tally.replies.items c.serve_next.new.tally.summary = c.in_ok-serve_next.ensures.tallied programs done left.0 c.loop-item.invariant.tallied in
    record {
      can_next = tt;
      is_finite = tt;
      small = c.in_ok-serve_next.ensures.small;
      counted = omega (arith, ap (λ (s : Summary). s.requests) next.summary_is, length_push done item, length-map c.loop-item.yielded awaited_seen, length_push c.loop-item.yielded c.in-Some.item);
      short = wider (length c.loop-item.yielded * 66048 + 66048) (length (c.loop-item.yielded ++ c.in-Some.item ∷ []) * 66048) c.serve_next.new.tally.replies.items
          (omega (arith, length_push c.loop-item.yielded c.in-Some.item))
          (c.in_ok-serve_next.ensures.short (length c.loop-item.yielded * 66048) c.loop-item.invariant.short);
      connected = c.in_ok-serve_next.ensures.counted ∙ c.loop-item.invariant.connected;
      tallied = subst (λ (ds : List Decided). IsTallied c.args.config.now programs ds c.serve_next.new.tally.replies.items c.serve_next.new.tally.summary) (sym seen) next;
      answered = subst (λ (answers : List AnswerView). AreAnswersFor tenants programs quantum (drop (length (c.loop-item.yielded ++ c.in-Some.item ∷ [])) items) answers) (sym {A = List AnswerView} c.in_ok-serve_next.ensures.left) left.1;
    }

pub returns-clause-fits : goal.returns-clause-fits
returns-clause-fits g c =
    IfOk-weaker c.played.result _ _
    (λ played few. omega (arith, few, c.loop-item.invariant.connected, c.requires.links, c.loop-item.invariant.counted, c.loop-item.invariant.small.requests))
    (c.played.ensures.fits (length c.loop-item.yielded * 66048) c.loop-item.invariant.short)
