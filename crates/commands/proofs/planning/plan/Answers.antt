use Rattle.std.proofs.Common.{◌≡◌, None, Some, ap, subst, sym, ◌∙◌}
use Rattle.std.proofs.lemmas.Result.{IfOk-weaker}
use Rattle.commands.proofs.Walking.{comes_end}
use Rattle.commands.specs.CommandLine.{AsksReplay, command_view}
use Rattle.commands.specs.Commands.{plan_of}
use Rattle.commands.specs.Plans.{Comes}
use Rattle.commands.proofs.planning.plan.Goals as goal

pub returns-in-None-clause-comes : goal.returns-in-None-clause-comes
returns-in-None-clause-comes g c =
    IfOk-weaker c.usage.result _ _
    (λ e p. subst (λ asked. Comes g.L.Library.gave (plan_of asked) c.args.lib.now c.args.lib.now e) c.in-None.ensures.shape (comes_end _ _ _ e p))
    c.usage.ensures

pub returns-in-Some-Help-clause-comes : goal.returns-in-Some-Help-clause-comes
returns-in-Some-Help-clause-comes g c =
    let asks = ap (λ command. Some (command_view command)) (sym c.in-Some-Help.field-0-is) ∙ c.in-Some-Help.ensures.shape in
    IfOk-weaker c.shown.result _ _
    (λ e p. subst (λ asked. Comes g.L.Library.gave (plan_of asked) c.args.lib.now c.args.lib.now e) asks (comes_end _ _ _ e p))
    c.shown.ensures

pub returns-in-Some-Version-clause-comes : goal.returns-in-Some-Version-clause-comes
returns-in-Some-Version-clause-comes g c =
    let asks = ap (λ command. Some (command_view command)) (sym c.in-Some-Version.field-0-is) ∙ c.in-Some-Version.ensures.shape in
    IfOk-weaker c.shown-in-Some-Version.result _ _
    (λ e p. subst (λ asked. Comes g.L.Library.gave (plan_of asked) c.args.lib.now c.args.lib.now e) asks (comes_end _ _ _ e p))
    c.shown-in-Some-Version.ensures

pub returns-in-Some-Soak-clause-comes : goal.returns-in-Some-Soak-clause-comes
returns-in-Some-Soak-clause-comes g c =
    let asks = ap (λ command. Some (command_view command)) (sym c.in-Some-Soak.field-0-is) ∙ c.in-Some-Soak.ensures.shape in
    IfOk-weaker c.soak.result _ _
    (λ e p. subst (λ asked. Comes g.L.Library.gave (plan_of asked) c.args.lib.now c.args.lib.now e) asks (comes_end _ _ _ e p))
    c.soak.ensures

-- No other words ask for a replay.

pub returns-in-None-clause-brief : goal.returns-in-None-clause-brief
returns-in-None-clause-brief g c = λ r replays. let other : None ≡ Some (AsksReplay r) = c.in-None.ensures.shape ∙ replays in cc

pub returns-in-Some-Help-clause-brief : goal.returns-in-Some-Help-clause-brief
returns-in-Some-Help-clause-brief g c = λ r replays.
    let other = ap (λ command. Some (command_view command)) (sym c.in-Some-Help.field-0-is) ∙ c.in-Some-Help.ensures.shape ∙ replays in
    cc

pub returns-in-Some-Version-clause-brief : goal.returns-in-Some-Version-clause-brief
returns-in-Some-Version-clause-brief g c = λ r replays.
    let other = ap (λ command. Some (command_view command)) (sym c.in-Some-Version.field-0-is) ∙ c.in-Some-Version.ensures.shape ∙ replays in
    cc

pub returns-in-Some-Invoke-clause-brief : goal.returns-in-Some-Invoke-clause-brief
returns-in-Some-Invoke-clause-brief g c = λ r replays.
    let other = ap (λ command. Some (command_view command)) (sym c.in-Some-Invoke.field-0-is) ∙ c.in-Some-Invoke.ensures.shape ∙ replays in
    cc

pub returns-in-Some-Check-clause-brief : goal.returns-in-Some-Check-clause-brief
returns-in-Some-Check-clause-brief g c = λ r replays.
    let other = ap (λ command. Some (command_view command)) (sym c.in-Some-Check.field-0-is) ∙ c.in-Some-Check.ensures.shape ∙ replays in
    cc

pub returns-in-Some-Soak-clause-brief : goal.returns-in-Some-Soak-clause-brief
returns-in-Some-Soak-clause-brief g c = λ r replays.
    let other = ap (λ command. Some (command_view command)) (sym c.in-Some-Soak.field-0-is) ∙ c.in-Some-Soak.ensures.shape ∙ replays in
    cc
