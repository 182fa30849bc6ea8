-- The requests before this one have arrived, and the connections are open.
use Rattle.std.proofs.Common.{◌≡◌, ◌≤◌, ◌/◌, ◌++◌}
use Rattle.recording_format.specs.Standing.{standing_behind}
use Rattle.generated_load.specs.Generator.{state_after}
use Rattle.generated_load.specs.Recording.{beginnings, arrivals, opened}
use Rattle.generated_load.proofs.recording.soak_recording.Given as goal

abbrev pub invariant-loop-place : goal.invariant-loop-place
invariant-loop-place l = record {
  records : l.recording ≡ beginnings l.links ++ arrivals l.start l.links l.place;
  state : l.generator.state ≡ state_after l.start l.place;
  last : (standing_behind l.recording).last ≤ l.place / 8;
  links : (standing_behind l.recording).links ≡ opened l.links;
}
