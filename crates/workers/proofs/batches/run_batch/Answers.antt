use Rattle.std.proofs.Common.{rules, ◌≡◌, length, arith}
use Rattle.std.proofs.lemmas.Slice.Zip.{AllZip-long}
use Rattle.workers.proofs.Zips.{zip_through}
use Rattle.workers.specs.Batches.{IsAnswerTo}
use Rattle.workers.specs.Tasks.{IsAtPlaceOf, IsFinishOf}
use Rattle.workers.proofs.batches.run_batch.Goals as goal

pub finish_all-requires-clause-room : goal.finish_all-requires-clause-room
finish_all-requires-clause-room g c κs within =
    let count : c.len.result ≡ length c.args.jobs.items = search rules in
    omega (arith, AllZip-long (IsAtPlaceOf c.args.settings.now.quantum) c.args.jobs.items c.in_ok-tasks.tasks.items c.in_ok-tasks.ensures.tasks, c.in_ok-answers.ensures.capacity, count)

pub returns : goal.returns
returns g c =
    let quantum = c.args.settings.now.quantum in
    zip_through (IsAtPlaceOf quantum) (IsFinishOf quantum) (IsAnswerTo quantum) c.args.jobs.items c.in_ok-tasks.tasks.items c.finish_all.result.items (λ job task answer stands finishes. finishes job stands) c.in_ok-tasks.ensures.tasks c.finish_all.ensures
