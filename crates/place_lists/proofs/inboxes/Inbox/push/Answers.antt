use Rattle.place_lists.proofs.Handing.{pushes}
use Rattle.place_lists.proofs.inboxes.Inbox.push.Goals as goal

pub push_as-requires-clause-rule : goal.push_as-requires-clause-rule
push_as-requires-clause-rule g c = pushes _ _ _ c.requires.place
