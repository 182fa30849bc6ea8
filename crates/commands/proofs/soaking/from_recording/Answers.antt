-- The line of the summary, or that there are too many items.
use Rattle.std.proofs.lemmas.Result.{IfOk-weaker}
use Rattle.serve_config.specs.Loaded.{programs_in}
use Rattle.commands.proofs.SoakWalks.{summed_ends, many_ends}
use Rattle.commands.proofs.soaking.from_recording.Goals as goal

pub returns-in-Ok : goal.returns-in-Ok
returns-in-Ok g c =
    IfOk-weaker c.summed.result _ _
    (λ e p. summed_ends c.args.config.now (programs_in c.args.programs.now) c.args.recording.now c.in-Ok.played.summary e c.in-Ok.ensures.played.few c.in-Ok.ensures.played.summary_is p)
    c.summed.ensures

pub returns-in-Err-Refused : goal.returns-in-Err-Refused
returns-in-Err-Refused g c =
    let many = rw c.in-Err-Refused.field-0-is at c.in-Err-Refused.ensures.refused in
    IfOk-weaker c.recording_fault.result _ _
    (λ e p. many_ends c.args.config.now (programs_in c.args.programs.now) c.args.recording.now c.in-Err-Refused.number e many.0 many.1 p)
    c.recording_fault.ensures
