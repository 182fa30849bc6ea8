use Rattle.std.proofs.Common.{◌≡◌, map, take, vec_capacity}
use Rattle.tenant_meters.specs.Metered.{first_pass}
use Rattle.tenant_meters.specs.Visiting.{terms_of}
use Rattle.tenant_meters.proofs.visits.make_each.Given as goal

abbrev pub invariant-loop-i : goal.invariant-loop-i
invariant-loop-i g l =
    (map terms_of l.meters.items ≡ take l.i l.terms) × (l.passes.items ≡ map first_pass l.meters.items) × (vec_capacity l.meters ≡ vec_capacity l.fn.meters) × (vec_capacity l.passes ≡ vec_capacity l.fn.passes)
