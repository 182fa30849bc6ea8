use Rattle.std.proofs.Common.{◌≡◌, map, take, vec_capacity}
use Rattle.tenant_meters.specs.Metered.{second}
use Rattle.tenant_meters.proofs.visits.split_each.Given as goal

abbrev pub invariant-loop-i : goal.invariant-loop-i
invariant-loop-i l =
    (l.from.items ≡ l.fn.from.items) × (l.passes.items ≡ map second (take l.i l.fn.from.items)) × (vec_capacity l.passes ≡ vec_capacity l.fn.passes)
