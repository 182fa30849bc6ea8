-- A worker's bench may be handed to a thread: its desk may, and so may all else that it owns.
use denote.RattleType.{RattleType}
use denote.Param.Send.{IsSend, IsSync, AllSend, sendable, recorded_send, struct_send, view_send}
use denote.Struct.Declared as declared
use denote.Struct.Tuple.{TupleAt, type_at}
use mir.Syntax.{Sym}
use Rattle.std.proofs.Common.{[], ◌∷◌}
use Rattle.std.proofs.Crossing.{crosses}
use Rattle.job_board.proofs.boards.BoardPass.TheSendSync as board_pass
use Rattle.memory_pool.proofs.berths.Berth.TheSendSync as berth
use Rattle.memory_pool.proofs.pools.PoolPass.TheSendSync as pool_pass
use Rattle.place_lists.proofs.inboxes.InboxPass.TheSendSync as inbox_pass
use Rattle.posted_jobs.proofs.jobs.PostedJob.TheSendSync as posted
use Rattle.posted_jobs.proofs.requests.KeptRequest.TheSendSync as kept
use Rattle.shop_desks.proofs.own_queues.OwnQueue.TheSendSync as own_queue
use Rattle.shop_desks.proofs.shops.Shop.TheSendSync as shop
use Rattle.crossbeam_channel.proofs.channel.Sender.TheSendSync as sender
use Rattle.link_sessions.proofs.servers.Server.TheSendSync as server
use Rattle.serve_sessions.specs.contracts.hands.Bench as Bench
use Rattle.shop_desks.specs.contracts.desks.ShopDesk as Desk
use Rattle.shop_desks.specs.contracts.desks.ShopDesk.TheInside as desk
use Rattle.shop_desks.specs.contracts.handed.HandedOut as Handed
use Rattle.shop_desks.specs.contracts.handed.HandedOut.TheInside as handed

handed_parts : AllSend (declared.fields handed.the_type)
handed_parts = (search (crosses, sendable, kept.the_send, kept.the_sync) depth 20, (search (sendable, crosses) depth 20, tt))

handed_send : IsSend Handed.the_row
handed_send = view_send handed.the_row _ _ _ _ (recorded_send _ _ _ handed.the_type.to_one (struct_send (declared.shape handed.the_type) handed_parts))

desk_parts : (R : RattleType) → IsSend R → AllSend (declared.fields (desk.the_type R))
desk_parts R send = (
  search (sendable, send) depth 20,
  (
    search (crosses, sendable, shop.the_send, shop.the_sync) depth 20,
    (
      search (board_pass.the_send, posted.the_send),
      (
        pool_pass.the_send,
        (
          inbox_pass.the_send,
          (
            own_queue.the_send,
            (
              search (crosses, sendable, berth.the_send) depth 20,
              (search (sendable, crosses, handed_send) depth 20, (search sendable, (search sendable, (search sendable, tt)))),
            ),
          ),
        ),
      ),
    ),
  ),
)

pub desk_send : (R : RattleType) → IsSend R → IsSend (Desk.the_row R)
desk_send R send = view_send (desk.the_row R) _ _ _ _ (recorded_send _ _ _ (desk.the_type R).to_one (struct_send (declared.shape (desk.the_type R)) (desk_parts R send)))

bench_parts : (R G : RattleType) → IsSend R → IsSend G → IsSync G → AllSend (declared.fields (Bench.the_type R G))
bench_parts R G send_runtime send_gate sync_gate = (
  search (sendable, send_runtime) depth 20,
  (
    search (crosses, sendable, server.the_send, server.the_sync) depth 20,
    (
      search (sendable, desk_send R send_runtime) depth 20,
      (search sendable, (search (crosses, sendable, send_gate, sync_gate) depth 20, (search (sender.the_send, crosses, sendable) depth 20, tt))),
    ),
  ),
)

-- a closure that owns a bench alone
pub work_send : (name : Sym) (T : RattleType) → IsSend T → IsSend (TupleAt name (T ∷ []))
work_send name T send = recorded_send _ _ _ (type_at name (T ∷ [])).to_one (struct_send (declared.shape (type_at name (T ∷ []))) (send, tt))

pub bench_send : (R G : RattleType) → IsSend R → IsSend G → IsSync G → IsSend (Bench.the_row R G)
bench_send R G send_runtime send_gate sync_gate = recorded_send _ _ _ (Bench.the_type R G).to_one (struct_send (declared.shape (Bench.the_type R G)) (bench_parts R G send_runtime send_gate sync_gate))
