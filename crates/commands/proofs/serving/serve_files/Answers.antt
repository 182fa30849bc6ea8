-- The words, the reads, and the server behind them.
use Rattle.std.proofs.Common.{◌≡◌, Option, None, Some, List, ℕ, map, string_bytes, ap, sym, ◌∙◌}
use Rattle.std.specs.Option.{option_map}
use Rattle.std.proofs.lemmas.Result.{IfOk-weaker}
use Rattle.serve_config.specs.Loaded.{programs_in}
use Rattle.commands.proofs.ServeWalks.{serves_as, serves_unready, serves_usage}
use Rattle.commands.specs.ServeWords.{serve_asked}
use Rattle.commands.proofs.serving.serve_files.Goals as goal

pub returns-in-Ok-clause-serves : goal.returns-in-Ok-clause-serves
returns-in-Ok-clause-serves g c =
    IfOk-weaker c.served_ending.result _ _
    (λ e p. serves_as g.L.Library.gave (serve_asked (map string_bytes c.args.words.now)) c.args.lib.now c.prepare.new.lib _ _ _ _ c.in-Ok.ready.config c.serve-served.result e
    (record { name = c.in-Some.name.now; is_asked = sym c.in-Some.ensures; programs = programs_in c.in-Ok.ready.programs.items; reads = c.in-Ok.ensures.readies.0 })
    p.0 p.1 c.serve-served.ensures.closed c.serve-served.ensures.no_thread c.serve-served.ensures.door_fault)
    c.served_ending.ensures

pub returns-in-Err-clause-serves : goal.returns-in-Err-clause-serves
returns-in-Err-clause-serves g c =
    IfOk-weaker c.into_ending.result _ _
    (λ e p. serves_unready g.L.Library.gave (serve_asked (map string_bytes c.args.words.now)) c.in-Some.name.now c.in-Err.why c.args.lib.now c.prepare.new.lib _ _ _ _ e
    (sym c.in-Some.ensures) c.in-Err.ensures.readies p)
    c.into_ending.ensures

pub returns-in-None-clause-serves : goal.returns-in-None-clause-serves
returns-in-None-clause-serves g c =
    IfOk-weaker c.usage.result _ _
    (λ e p. serves_usage g.L.Library.gave (serve_asked (map string_bytes c.args.words.now)) c.args.lib.now _ _ _ _ e (sym c.in-None.ensures) p)
    c.usage.ensures
