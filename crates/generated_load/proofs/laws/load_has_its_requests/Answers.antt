use Rattle.generated_load.proofs.Items.{request_read}
use Rattle.generated_load.proofs.LoadItems.{load_items, load_count, load_fits}
use Rattle.generated_load.proofs.laws.load_has_its_requests.Goals as goal

pub returns : goal.returns
returns c = record { one = request_read; all = load_items; as_many = load_count; few = load_fits }
