use Rattle.std.proofs.Common.{rules}
use Rattle.outside.proofs.ShelfAnswers.{gave_due}
use Rattle.outside.proofs.shelves.ShelfLibrary.read.Goals as goal

-- the file's front is what is due
pub returns-clause-given : goal.returns-clause-given
returns-clause-given c = gave_due _ _ _ _ c.front_of.result (search rules) (search rules) (search rules)
