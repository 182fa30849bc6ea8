use Rattle.serve_sessions.proofs.staffs.fn.start_bench.work+FnOnce.call_once.Goals as goal

-- the bounds of the types, and then what the work itself asks, which has some of these
pub work-requires : goal.work-requires
work-requires g c =
    let asked = c.requires.1.1.1.1.0 in
    let static-R = c.requires.1.1.0 in
    let static-G = c.requires.1.1.1.0 in
    let send-R = c.requires.1.1.1.1.1.0 in
    let send-G = c.requires.1.1.1.1.1.1 in
    (static-R, (static-G, (send-R, (send-G, (asked.0, (asked.1, asked))))))
