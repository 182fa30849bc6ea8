use Rattle.commands.proofs.Walking.{walk_shelf}
use Rattle.commands.proofs.read_laws.shelves_count_no_fault.Goals as goal

pub returns : goal.returns
returns c = walk_shelf
