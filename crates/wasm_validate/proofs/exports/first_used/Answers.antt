-- The first export that has the name of one before it is told by the sorted keys.
use Rattle.std.proofs.Common.{List, subst}
use Rattle.wasm_validate.specs.Names.{IsLeastTwin}
use Rattle.wasm_validate.specs.declared.exports.Key.{Key}
use Rattle.wasm_validate.proofs.Twins.{first_used_from_least}
use Rattle.wasm_validate.proofs.exports.first_used.Goals as goal

pub returns : goal.returns
returns c =
    let sorted = c.sort_unstable.ensures in
    first_used_from_least c.args.exports.now c.in_ok-keys.keys.items c.sort_unstable.new.self.items c.in_ok-keys.ensures sorted.permutation
    sorted.sorted
    c.least_twin.result (subst (λ (keys : List Key). IsLeastTwin keys c.least_twin.result) c.as_slice.ensures.value c.least_twin.ensures)
