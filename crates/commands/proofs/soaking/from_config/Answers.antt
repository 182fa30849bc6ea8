-- The programs are those of the load, and have the pages of its routes.
use Rattle.std.proofs.Common.{◌≡◌, List, ap, sym, ◌∙◌}
use Rattle.std.proofs.lemmas.Result.{IfOk-weaker}
use Rattle.wasm_meaning.specs.Programs.{Program}
use Rattle.serve_config.specs.Loaded.{programs_in}
use Rattle.serve_config.specs.Loading.{loaded}
use Rattle.serve_config.specs.Routing.{all_routes}
use Rattle.generated_load.specs.Configuration.{soak_configuration}
use Rattle.generated_load.specs.Modules.{soak_files}
use Rattle.generated_load.specs.Recording.{soak_records}
use Rattle.commands.proofs.SoakWalks.{are_theirs, loaded_are}
use Rattle.commands.specs.Endings.{due}
use Rattle.commands.specs.SoakPlans.{soak_loaded, summed}
use Rattle.commands.proofs.soaking.from_config.Goals as goal

pub from_programs-ending-requires-clause-programs : goal.from_programs-ending-requires-clause-programs
from_programs-ending-requires-clause-programs g c = λ lifetimes bounds.
    rw (c.requires.config, c.as_slice.ensures.value)
    (are_theirs (all_routes soak_configuration.tenants) (programs_in c.in_ok-programs.programs.items)
    (c.load_is_whole.ensures.pages soak_files 0 (all_routes soak_configuration.tenants) (programs_in c.in_ok-programs.programs.items) c.in_ok-programs.ensures))

pub returns : goal.returns
returns g c =
    let are : soak_loaded ≡ programs_in c.in_ok-programs.programs.items = loaded_are (loaded soak_files 0 (all_routes soak_configuration.tenants)) (programs_in c.in_ok-programs.programs.items) c.in_ok-programs.ensures in
    IfOk-weaker c.from_programs-ending.result _ _
    (λ e p. rw c.as_slice.ensures.value at p ∙ ap (λ (programs : List Program). due (summed c.args.config.now programs (soak_records c.args.words.start c.args.words.count))) (sym are))
    c.from_programs-ending.ensures
