use Rattle.std.proofs.Common.{◌+◌, ◌<◌, drop, length, arith, length-drop}
use Rattle.std.proofs.lemmas.List.{get_or-drop}
use Rattle.outside_links.proofs.mem_ports.MemPortPort.accept.Goals as goal

-- the links behind the first are unused as all were
pub invariant_of-self-2 : goal.invariant_of-self-2
invariant_of-self-2 c = λ k d within.
    let inside : k < length (drop 1 c.self.inside.links.items) = rw (← c.pop_front.ensures.rest) within in
    rw (c.pop_front.ensures.rest, get_or-drop 1 c.self.inside.links.items k d)
    (c.self.invariant (1 + k) d (omega (arith, inside, length-drop 1 c.self.inside.links.items)))
