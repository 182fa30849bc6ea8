use Rattle.generated_load.proofs.Accepted.{nil_accepted, trap_accepted, loop_accepted, echo_accepted}
use Rattle.generated_load.proofs.Loads.{all_made}
use Rattle.generated_load.proofs.Owned.{all_owned}
use Rattle.generated_load.proofs.Paged.{have_pages}
use Rattle.generated_load.proofs.laws.load_is_whole.Goals as goal

pub returns-clause-made : goal.returns-clause-made
returns-clause-made c = all_made nil_accepted trap_accepted loop_accepted echo_accepted

pub returns-clause-pages : goal.returns-clause-pages
returns-clause-pages c = have_pages

pub returns-clause-owned : goal.returns-clause-owned
returns-clause-owned c = all_owned
