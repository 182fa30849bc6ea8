use Rattle.std.proofs.Common.{◌≡◌, ◌++◌, drop}
use Rattle.recorded_runner.specs.Joined.{joined_from}
use Rattle.recorded_runner.specs.ReplayText.{answers_magic}
use Rattle.recorded_runner.proofs.replies.text_of.Given as goal

abbrev pub invariant-loop-one : goal.invariant-loop-one
invariant-loop-one l = record {
  counted : l.link ≡ l.one-index;
  said : l.text.items ++ joined_from l.link (drop l.one-index l.replies) ≡ answers_magic ++ joined_from 0 l.replies;
}
