-- What one turn is keeps what its sandbox stands for.
use Rattle.sandbox_states.proofs.SoundLaws.{suspended_exactly, turn_keeps, turn_keeps_in_turns}
use Rattle.sandbox_states.proofs.turns.run_turn.Goals as goal

pub returns-clause-suspended : goal.returns-clause-suspended
returns-clause-suspended c = suspended_exactly c.args.quantum c.args.sandbox c.one_turn.result c.one_turn.ensures.turn

pub returns-clause-stands : goal.returns-clause-stands
returns-clause-stands c = turn_keeps c.args.quantum c.args.sandbox c.one_turn.result c.one_turn.ensures.turn

pub returns-clause-in_turns : goal.returns-clause-in_turns
returns-clause-in_turns c = turn_keeps_in_turns c.args.quantum c.args.sandbox c.one_turn.result c.one_turn.ensures.turn
