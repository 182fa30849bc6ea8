use Rattle.std.proofs.Common.{refl}
use Rattle.wasm_meaning.proofs.TurnLaws.{groups_make, groups_shortest}
use Rattle.wasm_meaning.proofs.laws.groups_cut_prices.Goals as goal

pub returns-clause-whole : goal.returns-clause-whole
returns-clause-whole c = groups_make

pub returns-clause-shortest : goal.returns-clause-shortest
returns-clause-shortest c = groups_shortest

pub returns-clause-one : goal.returns-clause-one
returns-clause-one c = λ quantum. refl
