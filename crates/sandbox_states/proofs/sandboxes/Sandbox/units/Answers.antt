-- The sandbox's invariant, told of its view.
use Rattle.std.specs.Arc.{arc_value}
use Rattle.sandbox_states.proofs.SoundLaws.{runs_for}
use Rattle.sandbox_states.proofs.sandboxes.Sandbox.units.Goals as goal

pub returns-clause-onward : goal.returns-clause-onward
returns-clause-onward c =
    runs_for (arc_value c.self.inside.program) c.self.inside.vessel c.self.inside.streams c.self.inside.units c.self.inside.left c.self.inside.turns c.self.invariant
    c.self.inside.place c.self.inside.deadline c.args.self.now c.self.view_is
