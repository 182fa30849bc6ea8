-- The recording is that of the load, and its connections are those of the one tenant.
use Rattle.std.proofs.Common.{List, ◌∙◌, ap}
use Rattle.std.proofs.lemmas.Result.{IfOk-weaker}
use Rattle.recording_format.specs.declared.records.Record.{Record}
use Rattle.serve_config.specs.Loaded.{programs_in}
use Rattle.generated_load.specs.Recording.{soak_records}
use Rattle.commands.proofs.SoakWalks.{are_owned}
use Rattle.commands.specs.Endings.{due}
use Rattle.commands.specs.SoakPlans.{summed}
use Rattle.commands.proofs.soaking.from_programs.Goals as goal

pub from_recording-ending-requires-clause-tenants : goal.from_recording-ending-requires-clause-tenants
from_recording-ending-requires-clause-tenants g c = λ lifetimes bounds.
    rw (c.requires.config, c.in_ok-recording.ensures.records) (are_owned (soak_records c.args.words.start c.args.words.count) (c.load_is_whole.ensures.owned c.args.words.start c.args.words.count))

pub returns : goal.returns
returns g c =
    IfOk-weaker c.from_recording-ending.result _ _
    (λ e p. p ∙ ap (λ (records : List Record). due (summed c.args.config.now (programs_in c.args.programs.now) records)) c.in_ok-recording.ensures.records)
    c.from_recording-ending.ensures
