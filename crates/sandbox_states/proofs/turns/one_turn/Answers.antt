-- What a turn makes of the sandbox.
use Rattle.std.specs.Arc.{arc_value}
use Rattle.sandbox_states.proofs.SoundLaws.{turn_sound, turn_reached, turn_over}
use Rattle.sandbox_states.specs.Views.{told}
use Rattle.sandbox_states.proofs.turns.one_turn.Goals as goal

pub invariant_of-result : goal.invariant_of-result
invariant_of-result c =
    turn_sound (arc_value c.sandbox.inside.program) c.deref.result.now c.deref.ensures c.sandbox.inside.vessel c.run_quantum.new.vessel c.sandbox.inside.streams c.run_quantum.new.streams c.sandbox.inside.units c.sandbox.inside.left c.sandbox.inside.turns c.in-Reached.paid c.args.quantum c.sandbox.invariant
    c.in-Reached.ensures.means c.in-Reached.ensures.keeps.0 c.in-Reached.ensures.keeps.1 c.in-Reached.ensures.body

pub returns-in-Reached : goal.returns-in-Reached
returns-in-Reached c = record {
  turn = turn_reached (arc_value c.sandbox.inside.program) c.deref.result.now c.deref.ensures c.sandbox.inside.vessel c.run_quantum.new.vessel c.sandbox.inside.streams c.run_quantum.new.streams c.sandbox.inside.units c.sandbox.inside.left c.sandbox.inside.turns c.in-Reached.paid c.args.quantum c.sandbox.invariant
      c.args.sandbox c.sandbox.inside.place c.sandbox.inside.deadline c.sandbox.view_is
      c.in-Reached.ensures.means c.in-Reached.ensures.keeps.0 c.in-Reached.ensures.keeps.1 c.in-Reached.ensures.body c.in-Reached.ensures.pages;
}

pub returns-in-Over : goal.returns-in-Over
returns-in-Over c = record {
  turn = turn_over (arc_value c.sandbox.inside.program) c.deref.result.now c.deref.ensures c.sandbox.inside.vessel c.run_quantum.new.vessel c.sandbox.inside.streams c.run_quantum.new.streams c.sandbox.inside.units c.sandbox.inside.left c.sandbox.inside.turns c.in-Over.last c.args.quantum c.sandbox.invariant
      c.args.sandbox c.sandbox.inside.place c.sandbox.inside.deadline c.in-Over.end (told c.concluded.result) c.sandbox.view_is
      c.in-Over.ensures.means c.concluded.ensures c.in-Over.ensures.pages;
}
