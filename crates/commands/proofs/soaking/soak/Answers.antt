-- The configuration is that of the load.
use Rattle.std.proofs.Common.{◌∙◌, ap}
use Rattle.std.proofs.lemmas.Result.{IfOk-weaker}
use Rattle.serve_config.specs.Configuration.{Configuration}
use Rattle.generated_load.specs.Recording.{soak_records}
use Rattle.commands.specs.Endings.{due}
use Rattle.commands.specs.SoakPlans.{soak_end, soak_loaded, summed}
use Rattle.commands.proofs.soaking.soak.Goals as goal

pub returns : goal.returns
unfolding soak_end
returns g c =
    IfOk-weaker c.from_config-ending.result _ _
    (λ e p. p ∙ ap (λ (config : Configuration). due (summed config soak_loaded (soak_records c.args.words.start c.args.words.count))) c.in_ok-config.ensures)
    c.from_config-ending.ensures
