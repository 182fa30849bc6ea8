-- What was played, or refused, is what is due.
use Rattle.std.proofs.Common.{List, [], ap, arith, subst, ◌∙◌}
use Rattle.std.proofs.lemmas.Result.{IfOk-weaker}
use Rattle.std.specs.declared.alloc.Global.{Global}
use Rattle.std.specs.declared.sync.Arc.{Arc}
use Rattle.wasm_meaning.specs.Programs.{Program}
use Rattle.recorded_runner.specs.Serving.{IsPlayed}
use Rattle.serve_config.specs.Loaded.{programs_in}
use Rattle.commands.proofs.Brief.{brief_as, brief_text}
use Rattle.commands.proofs.ReplayWalks.{played_is, too_many_is}
use Rattle.commands.specs.Endings.{due}
use Rattle.commands.proofs.replaying.from_replay.Goals as goal

pub returns-in-Ok-clause-due : goal.returns-in-Ok-clause-due
returns-in-Ok-clause-due g c =
    let played = subst
    (λ (ps : List (Arc Program Global)). IsPlayed c.args.ready.now.config (programs_in ps) c.args.recording.now c.in-Ok.played)
    c.as_slice-programs.ensures.value c.in-Ok.ensures.played in
    IfOk-weaker c.replayed.result _ _
    (λ e p. p ∙ ap due (played_is c.args.ready.now.config (programs_in c.args.ready.now.programs.items) c.args.recording.now c.in-Ok.played played))
    c.replayed.ensures

pub returns-in-Err-Refused-clause-due : goal.returns-in-Err-Refused-clause-due
returns-in-Err-Refused-clause-due g c =
    IfOk-weaker c.recording_fault.result _ _
    (λ e p. p ∙ ap due (too_many_is c.args.ready.now.config (programs_in c.args.ready.now.programs.items) c.args.recording.now c.in-Err-Refused.field-0 c.in-Err-Refused.number c.in-Err-Refused.ensures.refused c.in-Err-Refused.field-0-is))
    c.recording_fault.ensures

pub returns-in-Ok-clause-brief : goal.returns-in-Ok-clause-brief
returns-in-Ok-clause-brief g c = IfOk-weaker c.replayed.result _ _ (λ e p. brief_text e _ _ p c.in-Ok.ensures.fits) c.replayed.ensures

pub returns-in-Err-Refused-clause-brief : goal.returns-in-Err-Refused-clause-brief
returns-in-Err-Refused-clause-brief g c = IfOk-weaker c.recording_fault.result _ _ (λ e p. brief_as e [] (ap (λ d. d.text) p) (omega arith)) c.recording_fault.ensures
