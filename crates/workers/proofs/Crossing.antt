-- Desks may be handed to threads: what they refer to is shared, and what they own may go along.
use denote.Param.Send.{IsSend, AllSend, sendable, recorded_send, struct_send, view_send, shr_send}
use denote.Ref.{NamedLft}
use denote.Struct.Declared as declared
use Rattle.std.proofs.Crossing.{crosses}
use Rattle.job_board.proofs.boards.Board.TheSendSync as board
use Rattle.job_board.proofs.boards.BoardPass.TheSendSync as board_pass
use Rattle.memory_pool.proofs.berths.Berth.TheSendSync as berth
use Rattle.memory_pool.proofs.pools.Pool.TheSendSync as pool
use Rattle.memory_pool.proofs.pools.PoolPass.TheSendSync as pool_pass
use Rattle.run_queues.proofs.common_queues.Common.TheSendSync as queue
use Rattle.run_queues.proofs.common_queues.CommonPass.TheSendSync as queue_pass
use Rattle.run_queues.proofs.local_queues.Local.TheSendSync as local
use Rattle.worker_desks.proofs.tasks.Task.TheSendSync as task
use Rattle.sandbox_states.specs.contracts.admitted.Admitted as Admitted
use Rattle.std.specs.contracts.option.Option as Option
use Rattle.worker_desks.specs.contracts.tasks.Task as Task
use Rattle.worker_desks.specs.contracts.tasks.TaskPlaced.TheImpl as TheImpl
use Rattle.worker_desks.specs.contracts.shared_desks.SharedDesk.{the_row}
use Rattle.worker_desks.specs.contracts.shared_desks.SharedDesk.TheInside as inside

parts_send : (a : NamedLft) → AllSend (declared.fields (inside.the_type a))
parts_send a = (
  shr_send _ _ _ (board.the_sync Task.the_row (Option.the_row Admitted.the_row) TheImpl.ghosts task.the_send task.the_sync),
  (
    search (board_pass.the_send, task.the_send),
    (
      shr_send _ _ _ pool.the_sync,
      (
        pool_pass.the_send,
        (
          shr_send _ _ _ queue.the_sync,
          (
            queue_pass.the_send,
            (local.the_send, (search (crosses, sendable, berth.the_send) depth 20, (search (sendable, crosses) depth 20, (search sendable, (search sendable, tt))))),
          ),
        ),
      ),
    ),
  ),
)

pub desk_send : (a : NamedLft) → IsSend (the_row a)
desk_send a = view_send (inside.the_row a) _ _ _ _ (recorded_send _ _ _ (inside.the_type a).to_one (struct_send (declared.shape (inside.the_type a)) (parts_send a)))
