use denote.Exit.{yes}
use denote.Param.{param, copied}
use denote.Param.Send.{param_send, arg_send}
use Rattle.serve_sessions.proofs.Crossing.{bench_send, work_send}
use Rattle.serve_sessions.proofs.staffs.start_bench.Goals as goal
use Rattle.serve_sessions.proofs.staffs.start_bench.Lts.{arg-0-2}

pub start-requires-send-F : goal.start-requires-send-F
start-requires-send-F g c κs within =
    let work = arg-0-2 g.row.R g.row.G g.row.T g.row.T-Runtime g.R.laws g.G.laws g.T.laws g.T.Runtime.laws g.R.copy g.R.Wait-dict g.R.Clone-dict g.G.Gate-dict g.T.Spawner-dict g.T.Runtime.Threads-dict g.G.Destruct-dict κs in
    param_send 2 work (arg_send _ yes _ (work_send _ _ (bench_send (copied 0 g.row.R) (param 1 g.row.G) c.type_bounds.send-R c.type_bounds.send-G c.type_bounds.sync-G)))
