-- What the bytes are read as is what is done here.
use Rattle.std.proofs.Common.{◌^◌, ◌<◌, List, [], ap, arith, length, sym, ◌∙◌}
use Rattle.std.proofs.lemmas.Result.{IfOk-weaker}
use Rattle.serve_config.specs.Loaded.{programs_in}
use Rattle.serve_config.specs.declared.tenants.Tenant.{Tenant}
use Rattle.commands.proofs.Brief.{brief_as}
use Rattle.commands.proofs.ReplayWalks.{recorded_end, refused_end}
use Rattle.commands.specs.Endings.{due}
use Rattle.commands.proofs.replaying.from_bytes.Goals as goal

pub returns-in-Ok-clause-due : goal.returns-in-Ok-clause-due
returns-in-Ok-clause-due g c =
    let same = ap (λ (ts : List Tenant). length ts) c.tenants-tenants.ensures.same in
    let few : length c.tenants-tenants.result.now < 2 ^ 32 = omega (arith, same, c.tenants-tenants.ensures.in_range.few.below) in
    IfOk-weaker c.from_replay-ending.result _ _
    (λ e p. p ∙ ap due (sym (recorded_end c.args.ready.now.config (programs_in c.args.ready.now.programs.items) c.args.bytes.now c.in-Ok.recording (length c.tenants-tenants.result.now) same few c.in-Ok.ensures.found)))
    c.from_replay-ending.ensures.due

pub returns-in-Err-Refused-clause-due : goal.returns-in-Err-Refused-clause-due
returns-in-Err-Refused-clause-due g c =
    let same = ap (λ (ts : List Tenant). length ts) c.tenants-tenants.ensures.same in
    let few : length c.tenants-tenants.result.now < 2 ^ 32 = omega (arith, same, c.tenants-tenants.ensures.in_range.few.below) in
    IfOk-weaker c.recording_fault.result _ _
    (λ e p. p ∙ ap due (sym (refused_end c.args.ready.now.config (programs_in c.args.ready.now.programs.items) c.args.bytes.now c.in-Err-Refused.field-0 c.in-Err-Refused.number (length c.tenants-tenants.result.now) same few c.in-Err-Refused.ensures.refused c.in-Err-Refused.field-0-is)))
    c.recording_fault.ensures

pub returns-in-Err-Refused-clause-brief : goal.returns-in-Err-Refused-clause-brief
returns-in-Err-Refused-clause-brief g c = IfOk-weaker c.recording_fault.result _ _ (λ e p. brief_as e [] (ap (λ d. d.text) p) (omega arith)) c.recording_fault.ensures
