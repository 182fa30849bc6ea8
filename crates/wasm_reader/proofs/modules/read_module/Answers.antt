use Rattle.std.proofs.Common.{◌≤◌, length, arith}
use Rattle.wasm_ops.proofs.ByteLaws.{all_bytes}
use Rattle.wasm_reader.specs.Modules.{most_bytes}
use Rattle.wasm_reader.proofs.FormedModules.{module_given}
use Rattle.wasm_reader.proofs.ModuleAnswers.{found, refused, only, only_refused}
use Rattle.wasm_reader.proofs.modules.read_module.Goals as goal

pub returns-clause-found : goal.returns-clause-found
returns-clause-found c =
    let small : length c.args.bytes.now ≤ most_bytes = omega arith in
    found c.args.bytes.now c.read_whole.result c.read_whole.ensures.whole.0 small c.read_whole.ensures.whole.1

pub returns-clause-formed : goal.returns-clause-formed
returns-clause-formed c =
    let small : length c.args.bytes.now ≤ most_bytes = omega arith in
    module_given c.args.bytes.now c.read_whole.result (all_bytes c.args.bytes.now (λ i. let fits = c.type_inv.bytes i in omega arith))
    (found c.args.bytes.now c.read_whole.result c.read_whole.ensures.whole.0 small c.read_whole.ensures.whole.1)

pub returns-clause-refused : goal.returns-clause-refused
returns-clause-refused c =
    let small : length c.args.bytes.now ≤ most_bytes = omega arith in
    refused c.args.bytes.now c.read_whole.result c.read_whole.ensures.whole.0 small c.read_whole.ensures.whole.1

pub returns-clause-only : goal.returns-clause-only
returns-clause-only c =
    let small : length c.args.bytes.now ≤ most_bytes = omega arith in
    only c.args.bytes.now c.read_whole.result c.read_whole.ensures.whole.0 small c.read_whole.ensures.whole.1

pub returns-clause-only_refused : goal.returns-clause-only_refused
returns-clause-only_refused c =
    let small : length c.args.bytes.now ≤ most_bytes = omega arith in
    only_refused c.args.bytes.now c.read_whole.result c.read_whole.ensures.whole.0 small c.read_whole.ensures.whole.1
