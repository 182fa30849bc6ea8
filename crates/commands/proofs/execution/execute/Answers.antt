-- The job is the request.
use Rattle.std.proofs.Common.{◌≡◌, ℕ, List, ap, refl, subst, ◌∙◌, rules}
use Rattle.std.specs.Arc.{arc_value}
use Rattle.wasm_meaning.specs.HostCalls.{Streams}
use Rattle.wasm_meaning.specs.Programs.{Program}
use Rattle.wasm_meaning.specs.Requests.{Request}
use Rattle.sandbox_states.specs.Stands.{AnswersFor}
use Rattle.sandbox_states.specs.Views.{AdmittedView}
use Rattle.sandbox_states.specs.Views as views
use Rattle.commands.specs.Commands.{request_of}
use Rattle.commands.proofs.execution.execute.Goals as goal

same : (p q : Program) (s : Streams) (budget : ℕ) (body : List ℕ) → p ≡ q → s.body ≡ body → views.request_of p s budget ≡ request_of q budget body
same p q s budget body e f = rw (e, f) refl

pub returns : goal.returns
returns c =
    let told = c.to_its_end.ensures c.new-job.result.request c.start.ensures.stands in
    let program : arc_value c.in_ok-program.program ≡ c.args.program = search rules in
    let body : c.in-Ok.streams.body ≡ c.args.body.items = ap (λ (s : Streams). s.body) c.in-Ok.ensures.streams in
    subst (λ (r : Request). AnswersFor r c.to_its_end.result.verdict c.to_its_end.result.units)
    (ap (λ (j : AdmittedView). j.request) c.new-job.ensures ∙ same (arc_value c.in_ok-program.program) c.args.program c.in-Ok.streams c.args.budget c.args.body.items program body)
    told
