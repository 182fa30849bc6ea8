use denote.Param.Send.{sendable}
use Rattle.workers.proofs.Crossing.{desk_send}
use Rattle.workers.proofs.crews.run_each.Goals as goal

pub for_each_mut-requires-send-T : goal.for_each_mut-requires-send-T
for_each_mut-requires-send-T g c κs within = search (desk_send, sendable)
