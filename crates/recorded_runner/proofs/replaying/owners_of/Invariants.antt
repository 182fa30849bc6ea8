use Rattle.std.proofs.Common.{◌≡◌, ◌++◌, drop}
use Rattle.recording_format.specs.Connections.{tenants_of}
use Rattle.recorded_runner.proofs.replaying.owners_of.Given as goal

abbrev pub invariant-loop-one : goal.invariant-loop-one
invariant-loop-one l = l.owners.items ++ tenants_of (drop l.one-index l.records) ≡ tenants_of l.records
