-- What the bytes are read as is what is done here.
use Rattle.std.proofs.Common.{Ok, subst, sym}
use Rattle.serve_config.specs.Configuration.{Configuration}
use Rattle.commands.proofs.CheckWalks.{refused_comes}
use Rattle.commands.proofs.Checks.{config_checked}
use Rattle.commands.specs.CheckPlans.{routes_plan}
use Rattle.commands.specs.Plans.{Step, go_on}
use Rattle.commands.specs.Readying.{Readies}
use Rattle.commands.proofs.checking.from_bytes.Goals as goal

pub returns-in-Ok-clause-readies : goal.returns-in-Ok-clause-readies
returns-in-Ok-clause-readies g c =
    subst (λ (step : Step Configuration). Readies g.L.Library.gave (λ next. go_on (routes_plan next) step) c.with_programs.result c.args.lib.now c.with_programs.new.lib)
    (sym (config_checked c.args.bytes.now (Ok c.in-Ok.config) c.in-Ok.ensures.found)) c.with_programs.ensures.readies

pub returns-in_ok-config_fault-in-Err-Refused-clause-readies : goal.returns-in_ok-config_fault-in-Err-Refused-clause-readies
returns-in_ok-config_fault-in-Err-Refused-clause-readies g c =
    λ next. refused_comes g.L.Library.gave c.args.bytes.now next c.args.lib.now c.in-Err-Refused.field-0 c.in-Err-Refused.number _ c.in-Err-Refused.ensures.refused c.in-Err-Refused.field-0-is
    c.in_ok-config_fault-in-Err-Refused.ensures
