use Rattle.std.proofs.Common.{rules, None}
use Rattle.std.proofs.lemmas.Result.{IfOk-weaker}
use Rattle.commands.proofs.Walking.{comes_end, comes_failed, comes_given}
use Rattle.commands.proofs.planning.from_body.Goals as goal

pub returns-in-Err-Missing-clause-comes : goal.returns-in-Err-Missing-clause-comes
returns-in-Err-Missing-clause-comes g c =
    IfOk-weaker c.not_read.result _ _ (λ e p. comes_given _ _ _ _ None _ _ _ e (search rules) (comes_end _ _ _ e p)) c.not_read.ensures

pub returns-in-Err-Failed-clause-comes : goal.returns-in-Err-Failed-clause-comes
returns-in-Err-Failed-clause-comes g c =
    IfOk-weaker c.not_read-in-Err-Failed.result _ _ (λ e p. comes_failed _ _ _ _ _ _ e (search rules) p) c.not_read-in-Err-Failed.ensures
