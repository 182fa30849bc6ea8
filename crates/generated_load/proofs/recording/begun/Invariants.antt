-- The connections before this one have begun.
use Rattle.std.proofs.Common.{◌≡◌}
use Rattle.recording_format.specs.Standing.{standing_behind}
use Rattle.generated_load.specs.Recording.{beginnings, opened}
use Rattle.generated_load.proofs.recording.begun.Given as goal

abbrev pub invariant-loop-link : goal.invariant-loop-link
invariant-loop-link l = record {
  records : l.recording ≡ beginnings l.link;
  stands : standing_behind l.recording ≡ record { last = 0; links = opened l.link };
}
