use Rattle.std.proofs.Common.{rules, ◌≡◌, Some, sym, ap, ◌∙◌}
use Rattle.wasm_meaning.specs.Requests.{Request, Verdict, verdict}
use Rattle.worker_desks.specs.declared.tasks.Task.TheVariants.{Answered}
use Rattle.posted_jobs.proofs.Belonging.{answers_for}
use Rattle.posted_jobs.proofs.jobs.PostedJob.answer_to.Goals as goal

pub returns-in-Answered-clause-answer : goal.returns-in-Answered-clause-answer
returns-in-Answered-clause-answer c =
    let own : c.args.self.request ≡ c.args.request.now = search rules in
    let task : c.args.self.task ≡ Answered c.in-Answered.answer = sym c.into_parts-task.ensures.parts.1 ∙ c.in-Answered.is in
    let answers = answers_for c.args.self.request c.args.self.task c.in-Answered.answer task c.into_parts-task.ensures.belongs in
    ap (λ (r : Request). verdict r) (sym own) ∙ (answers ∙ ap (λ (v : Verdict). Some v) (sym c.into_verdict.ensures))
