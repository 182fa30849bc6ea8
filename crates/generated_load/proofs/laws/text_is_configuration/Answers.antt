use Rattle.generated_load.proofs.Text.{text_is}
use Rattle.generated_load.proofs.laws.text_is_configuration.Goals as goal

pub returns : goal.returns
returns c = text_is
