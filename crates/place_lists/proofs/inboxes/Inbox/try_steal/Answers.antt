use Rattle.place_lists.proofs.Handing.{takes}
use Rattle.place_lists.proofs.inboxes.Inbox.try_steal.Goals as goal

pub steal_as-requires-clause-rule : goal.steal_as-requires-clause-rule
steal_as-requires-clause-rule g c = (takes _ _ 1, (λ views rule at. tt))
