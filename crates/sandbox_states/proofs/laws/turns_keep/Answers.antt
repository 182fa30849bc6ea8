use Rattle.sandbox_states.proofs.SoundLaws.{keeps_one, keeps_last, keeps_one_in_turns, keeps_last_in_turns}
use Rattle.sandbox_states.proofs.laws.turns_keep.Goals as goal

pub returns-clause-stands : goal.returns-clause-stands
returns-clause-stands c request quantum old new = keeps_one quantum request old new

pub returns-clause-answers : goal.returns-clause-answers
returns-clause-answers c request quantum old new = keeps_last quantum request old new

pub returns-clause-one : goal.returns-clause-one
returns-clause-one c request quantum old new = keeps_one_in_turns quantum request old new

pub returns-clause-last : goal.returns-clause-last
returns-clause-last c request quantum old new = keeps_last_in_turns quantum request old new
