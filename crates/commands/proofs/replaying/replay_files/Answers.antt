-- Behind the configuration and its modules the recording is read.
use Rattle.std.proofs.Common.{subst}
use Rattle.std.proofs.lemmas.Result.{IfOk-weaker}
use Rattle.serve_config.specs.Loaded.{programs_in}
use Rattle.commands.proofs.CheckWalks.{leads_comes, ready_comes}
use Rattle.commands.specs.CheckPlans.{config_plan}
use Rattle.commands.specs.CommandLine.{replay_view}
use Rattle.commands.specs.Readying.{EndsBrief}
use Rattle.commands.specs.ReplayPlans.{recording_plan, replay_plan}
use Rattle.commands.proofs.replaying.replay_files.Goals as goal

pub returns-in-Ok-clause-comes : goal.returns-in-Ok-clause-comes
returns-in-Ok-clause-comes g c =
    IfOk-weaker c.from_recording-ending.result _ _
    (λ e p. leads_comes g.L.Library.gave (replay_plan (replay_view c.args.words)) (recording_plan c.args.words.recording_name.now c.in-Ok.ready.config (programs_in c.in-Ok.ready.programs.items))
    c.args.lib.now c.prepare.new.lib c.from_recording-ending.new.lib e (c.in-Ok.ensures.readies.0 (recording_plan c.args.words.recording_name.now)) p)
    c.from_recording-ending.ensures.comes

pub returns-in-Err-clause-comes : goal.returns-in-Err-clause-comes
returns-in-Err-clause-comes g c =
    IfOk-weaker c.into_ending.result _ _
    (λ e p. ready_comes g.L.Library.gave (config_plan c.args.words.config_name.now) (recording_plan c.args.words.recording_name.now) c.in-Err.why c.args.lib.now c.prepare.new.lib e c.in-Err.ensures.readies p)
    c.into_ending.ensures

pub returns-in-Err-clause-brief : goal.returns-in-Err-clause-brief
returns-in-Err-clause-brief g c = IfOk-weaker c.into_ending.result _ _ (λ e p. subst EndsBrief p c.in-Err.ensures.brief) c.into_ending.ensures
