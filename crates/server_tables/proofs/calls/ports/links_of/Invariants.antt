use Rattle.std.proofs.Common.{◌≡◌, All, false}
use Rattle.server_tables.proofs.calls.ports.links_of.Given as goal

-- none of the links so far is used
abbrev pub invariant-loop : goal.invariant-loop
invariant-loop l = All (λ link. link.used ≡ false) l.links.items
