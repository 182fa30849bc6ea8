use Rattle.std.proofs.Common.{◌≡◌, List, length, map, true, sym, ap, subst, ◌∙◌}
use Rattle.std.proofs.lemmas.List.{length-map}
use Rattle.job_board.specs.Boarding.{terms}
use Rattle.job_board.specs.Ends.{AreUnbegun}
use Rattle.worker_desks.specs.Tasks.{place_of, kind_of, turns_of}
use Rattle.worker_desks.specs.declared.tasks.Task.{Task}
use Rattle.worker_desks.specs.declared.tasks.Task.TheVariants.{Waiting}
use Rattle.workers.proofs.Opening.{unbegun, takes_desks, own_tasks, all_fit_still}
use Rattle.workers.proofs.batches.serve.Goals as goal

pub new-requires-clause-unbegun : goal.new-requires-clause-unbegun
new-requires-clause-unbegun g c = subst (λ (ts : List Task). AreUnbegun place_of kind_of turns_of ts) (sym c.in_ok-tasks.ensures) (unbegun c.args.jobs.items c.requires.numbered)

pub hire-requires-clause-takes : goal.hire-requires-clause-takes
hire-requires-clause-takes g c =
    takes_desks c.args.settings.now c.args.jobs.items c.in_ok-tasks.tasks.items c.in_ok-workshop.workshop c.in_ok-workshop.passes c.in_ok-tasks.ensures c.requires.few c.requires.limits c.requires.pages c.in_ok-workshop.ensures

pub returns-clause-tasks : goal.returns-clause-tasks
returns-clause-tasks g c =
    let laid = c.in_ok-workshop.ensures in
    let quantum = c.args.settings.now.quantum in
    let jobs = c.args.jobs.items in
    let given : c.in_ok-workshop.workshop.board.terms ≡ terms true quantum (map Waiting jobs) = laid.terms_are ∙ ap (λ (ts : List Task). terms true quantum ts) c.in_ok-tasks.ensures in
    let many : length c.in_ok-tasks.tasks.items ≡ length jobs = ap (λ (ts : List Task). length ts) c.in_ok-tasks.ensures ∙ length-map jobs Waiting in
    own_tasks quantum jobs c.in_ok-workshop.workshop.board.terms c.close.result.items c.requires.numbered given (c.close.ensures.count ∙ (laid.places ∙ many)) c.close.ensures.tasks

pub returns-clause-roomy : goal.returns-clause-roomy
returns-clause-roomy g c = all_fit_still c.args.settings.now.pages c.args.settings.now.quantum c.args.jobs.items c.close.result.items c.requires.pages (returns-clause-tasks g c)
