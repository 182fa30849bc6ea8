use Rattle.std.proofs.Common.{◌≡◌}
use Rattle.outside_links.proofs.tcp_ports.TcpPortPort.accept.Given as goal

-- what is tried again leaves the port as it was
abbrev pub invariant-loop : goal.invariant-loop
invariant-loop l = l.self ≡ l.fn.self
