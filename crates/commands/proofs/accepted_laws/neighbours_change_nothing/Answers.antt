-- Both endings are those of the definition, of which the law speaks.
use Rattle.std.proofs.Common.{◌≡◌, ℕ, List, length, sym, ap, ◌∙◌, arith}
use Rattle.recorded_runner.specs.Alone.{alone}
use Rattle.recorded_runner.specs.Readings.{replies_in, replies_to}
use Rattle.recorded_runner.specs.ReplayText.{replay_text}
use Rattle.commands.specs.Commands.{ending}
use Rattle.commands.specs.Endings.{text_of}
use Rattle.commands.proofs.accepted_laws.neighbours_change_nothing.Goals as goal

pub returns : goal.returns
returns c = λ words others files held r s config programs records tenant asks a asks_alone b few.
    let one : text_of (ending words files) ≡ replay_text config programs records = ap text_of (c.accepted_files_are_replayed.ensures.ends words files r config programs records asks a) in
    let other : text_of (ending others held) ≡ replay_text config programs (alone tenant records) =
    ap text_of (c.accepted_files_are_replayed.ensures.ends others held s config programs (alone tenant records) asks_alone b) in
    ap (λ (text : List ℕ). replies_to tenant records text) one
    ∙ c.tenants_are_isolated.ensures.whole config programs records tenant a.spelt.legal (omega (arith, few, ap (λ (text : List ℕ). length text) one))
    ∙ sym (ap (λ (text : List ℕ). replies_in (alone tenant records) text) other)
