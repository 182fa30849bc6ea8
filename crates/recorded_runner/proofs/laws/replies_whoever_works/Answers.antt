use Rattle.recorded_runner.proofs.TextLaws.{same_text, same_summary}
use Rattle.recorded_runner.proofs.laws.replies_whoever_works.Goals as goal

pub returns : goal.returns
returns c = record { text = same_text; summary = same_summary }
