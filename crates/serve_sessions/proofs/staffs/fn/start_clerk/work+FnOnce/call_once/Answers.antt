use Rattle.serve_sessions.proofs.staffs.fn.start_clerk.work+FnOnce.call_once.Goals as goal

-- the bounds of the types, and then what the work itself asks, which has some of these
pub work-requires : goal.work-requires
work-requires g c =
    let asked = c.requires.1.1.1.1.1.1.1.0 in
    let static-R = c.requires.1.1.1.1.0 in
    let static-P = c.requires.1.1.1.1.1.0 in
    let static-C = c.requires.1.1.1.1.1.1.0 in
    let send-R = c.requires.1.1.1.1.1.1.1.1.0 in
    let send-P = c.requires.1.1.1.1.1.1.1.1.1 in
    (static-R, (static-P, (static-C, (send-R, (send-P, (asked.0, (asked.1, (asked.2, (asked.3, asked)))))))))
