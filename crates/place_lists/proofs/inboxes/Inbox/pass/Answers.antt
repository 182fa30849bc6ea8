use Rattle.place_lists.proofs.Handing.{admits}
use Rattle.place_lists.proofs.inboxes.Inbox.pass.Goals as goal

pub pass-requires : goal.pass-requires
pass-requires c = admits
