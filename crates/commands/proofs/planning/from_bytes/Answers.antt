-- What the check of the bytes comes to is what is done here.
use Rattle.std.proofs.Common.{◌≡◌, ℕ, Ok, Err, rules, ap, sym, subst}
use Rattle.std.proofs.lemmas.Result.{IfOk-weaker}
use Rattle.module_files.specs.Made.{IsMade}
use Rattle.module_files.specs.FilePrograms.{program_of}
use Rattle.module_files.specs.declared.faults.Unmade.{Unmade}
use Rattle.commands.proofs.Walking.{comes_end}
use Rattle.commands.specs.ModuleChecks.{given_pages, module_step}
use Rattle.commands.specs.CommandLine.{invoke_view}
use Rattle.commands.specs.Commands.{body_plan}
use Rattle.commands.specs.Plans.{Comes, go_on}
use Rattle.commands.proofs.planning.from_bytes.Goals as goal

pub returns-in-Ok-clause-comes : goal.returns-in-Ok-clause-comes
returns-in-Ok-clause-comes g c =
    IfOk-weaker c.from_body.result _ _
    (λ e p. subst (λ made. Comes g.L.Library.gave (go_on (body_plan (invoke_view c.args.invoke)) (module_step 0 made)) c.args.lib.now c.from_body.new.lib e)
    (sym c.in-Ok.ensures.made) p)
    c.from_body.ensures.comes

pub returns-in-Err-Unfit-clause-comes : goal.returns-in-Err-Unfit-clause-comes
returns-in-Err-Unfit-clause-comes g c =
    IfOk-weaker c.module_fault.result _ _
    (λ e p. subst (λ made. Comes g.L.Library.gave (go_on (body_plan (invoke_view c.args.invoke)) (module_step 0 made)) c.args.lib.now c.args.lib.now e)
    (sym (subst (λ (u : Unmade). IsMade (Err u) (program_of given_pages c.args.bytes.now)) c.in-Err-Unfit.field-0-is c.in-Err-Unfit.ensures.made)) (comes_end _ _ _ e p))
    c.module_fault.ensures
