use Rattle.std.proofs.Common.{◌≡◌, List, ℕ, Some, slice_get, sym, ap, ap₂, ◌∙◌, arith}
use Rattle.std.specs.Arc.{arc_value}
use Rattle.sandbox_states.specs.Views.{AdmittedView}
use Rattle.serve_config.specs.Loaded.{programs_in}
use Rattle.wasm_meaning.specs.HostCalls.{Streams}
use Rattle.wasm_meaning.specs.Programs.{Program}
use Rattle.recorded_runner.proofs.RouteLaws.{mapped_at, read_some, request_made, job_made}
use Rattle.recorded_runner.proofs.jobs.job_of.Goals as goal

pub returns-in-Ok-clone-clause-job : goal.returns-in-Ok-clone-clause-job
returns-in-Ok-clone-clause-job c =
    let tenants = c.args.config.now.tenants in
    let shared = c.args.programs.now in
    let route = c.args.entry.route in
    let budget = c.route.result.now.budget in
    let indexed : slice_get (programs_in shared) route ≡ Some (arc_value c.index-programs-route.result) =
    mapped_at arc_value shared route c.index-programs-route.result (read_some shared route c.index-programs-route.result (omega (arith, c.requires.known, c.requires.each)) c.index-programs-route.is) in
    let same : arc_value c.in-Ok-clone.program ≡ arc_value c.index-programs-route.result = c.in-Ok-clone.ensures.cases in
    let body : c.in-Ok.streams.body ≡ c.args.entry.body.items = ap (λ (s : Streams). s.body) c.in-Ok.ensures.streams in
    record {
      made =
          job_made tenants (programs_in shared) route c.args.entry.body.items (arc_value c.index-programs-route.result) c.route.result.now indexed c.route.ensures.is
          ∙ ap₂ (λ (p : Program) (bytes : List ℕ). Some (request_made p bytes budget)) (sym same) (sym body)
          ∙ ap (λ (j : AdmittedView). Some j.request) (sym c.new-in-Ok-clone.ensures);
      due = ap (λ (j : AdmittedView). j.deadline) c.new-in-Ok-clone.ensures;
    }
