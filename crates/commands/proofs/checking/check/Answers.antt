-- Behind the reads nothing is left but to show the counts.
use Rattle.std.proofs.lemmas.Result.{IfOk-weaker}
use Rattle.commands.proofs.CheckWalks.{leads_comes, ready_comes}
use Rattle.commands.proofs.Walking.{comes_end}
use Rattle.commands.specs.CheckPlans.{check_plan, config_plan, counted}
use Rattle.commands.specs.Plans.{Ends}
use Rattle.commands.proofs.checking.check.Goals as goal

pub returns-in-Ok-clause-comes : goal.returns-in-Ok-clause-comes
returns-in-Ok-clause-comes g c =
    IfOk-weaker c.counted-ending.result _ _
    (λ e p. leads_comes g.L.Library.gave (check_plan c.args.name.now) (Ends (counted c.in-Ok.ready.config)) c.args.lib.now c.prepare.new.lib c.prepare.new.lib e
    (c.in-Ok.ensures.readies.0 (λ config programs. Ends (counted config))) (comes_end _ _ _ e p))
    c.counted-ending.ensures

pub returns-in-Err-clause-comes : goal.returns-in-Err-clause-comes
returns-in-Err-clause-comes g c =
    IfOk-weaker c.into_ending.result _ _
    (λ e p. ready_comes g.L.Library.gave (config_plan c.args.name.now) (λ config programs. Ends (counted config)) c.in-Err.why c.args.lib.now c.prepare.new.lib e c.in-Err.ensures.readies p)
    c.into_ending.ensures
