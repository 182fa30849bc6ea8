-- The read of the recording, and what it came to.
use Rattle.std.proofs.Common.{◌≡◌, None, List, [], ap, arith, ℕ, length, rules, subst}
use Rattle.std.proofs.lemmas.Result.{IfOk-weaker}
use Rattle.serve_config.specs.Loaded.{programs_in}
use Rattle.commands.proofs.Brief.{brief_as}
use Rattle.commands.proofs.ReplayWalks.{recording_comes}
use Rattle.commands.proofs.Walking.{comes_end, comes_failed, comes_given}
use Rattle.commands.specs.Endings.{due}
use Rattle.commands.specs.ReplayPlans.{check_recording, recording_end}
use Rattle.commands.proofs.replaying.from_recording.Goals as goal

pub returns-in-Ok-clause-comes : goal.returns-in-Ok-clause-comes
returns-in-Ok-clause-comes g c =
    IfOk-weaker c.from_bytes.result _ _
    (λ e p. recording_comes g.L.Library.gave c.args.name.now c.args.ready.now.config (programs_in c.args.ready.now.programs.items) c.in-Ok.bytes.items c.args.lib.now c.read.new.self e c.in-Ok.ensures.given
    (subst (λ (bytes : List ℕ). e ≡ due (recording_end c.args.ready.now.config (programs_in c.args.ready.now.programs.items) (check_recording (length c.args.ready.now.config.tenants) bytes))) c.as_slice.ensures.value p))
    c.from_bytes.ensures.due

pub returns-in-Err-Missing-clause-comes : goal.returns-in-Err-Missing-clause-comes
returns-in-Err-Missing-clause-comes g c =
    IfOk-weaker c.not_read.result _ _ (λ e p. comes_given _ _ _ _ None _ _ _ e (search rules) (comes_end _ _ _ e p)) c.not_read.ensures

pub returns-in-Err-Failed-clause-comes : goal.returns-in-Err-Failed-clause-comes
returns-in-Err-Failed-clause-comes g c =
    IfOk-weaker c.not_read-in-Err-Failed.result _ _ (λ e p. comes_failed _ _ _ _ _ _ e (search rules) p) c.not_read-in-Err-Failed.ensures

pub returns-in-Err-Missing-clause-brief : goal.returns-in-Err-Missing-clause-brief
returns-in-Err-Missing-clause-brief g c = IfOk-weaker c.not_read.result _ _ (λ e p. brief_as e [] (ap (λ d. d.text) p) (omega arith)) c.not_read.ensures

pub returns-in-Err-Failed-clause-brief : goal.returns-in-Err-Failed-clause-brief
returns-in-Err-Failed-clause-brief g c = IfOk-weaker c.not_read-in-Err-Failed.result _ _ (λ e p. brief_as e [] (ap (λ d. d.text) p) (omega arith)) c.not_read-in-Err-Failed.ensures
