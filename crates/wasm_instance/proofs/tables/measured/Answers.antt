-- The room of a call, from what the validator measured.
use Rattle.std.proofs.Common.{List, length, arith, ap}
use Rattle.wasm_ops.specs.declared.types.ValType.{ValType}
use Rattle.wasm_meaning.proofs.ModuleFacts.{is_within}
use Rattle.wasm_instance.proofs.Functions.{few_params, few_locals, shape_is}
use Rattle.wasm_instance.proofs.tables.measured.Goals as goal

pub overflow_cast-params : goal.overflow_cast-params
overflow_cast-params c =
    let few = few_params c.args.valid.now c.requires.valid.formed c.args.number c.args.function.now c.requires.typed in
    let same = ap (λ (ts : List ValType). length ts) c.as_slice.ensures in
    omega (arith, few, same)

pub overflow_cast-locals : goal.overflow_cast-locals
overflow_cast-locals c =
    let few = few_locals c.args.valid.now c.requires.valid.formed c.args.number c.args.body.now c.requires.there in
    let same = ap (λ (ts : List ValType). length ts) c.as_slice-2.ensures in
    omega (arith, few, same)

pub height-operands-requires : goal.height-operands-requires
height-operands-requires c =
    let within = is_within c.args.valid.now.bodies c.args.number c.args.body.now c.requires.there in record { known = within }

pub nest-blocks-requires : goal.nest-blocks-requires
nest-blocks-requires c =
    let within = is_within c.args.valid.now.bodies c.args.number c.args.body.now c.requires.there in record { known = within }

pub overflow_add-result-2 : goal.overflow_add-result-2
overflow_add-result-2 c =
    let few = few_params c.args.valid.now c.requires.valid.formed c.args.number c.args.function.now c.requires.typed in
    let fewer = few_locals c.args.valid.now c.requires.valid.formed c.args.number c.args.body.now c.requires.there in
    let same = ap (λ (ts : List ValType). length ts) c.as_slice.ensures in
    let others = ap (λ (ts : List ValType). length ts) c.as_slice-2.ensures in
    omega (arith, few, fewer, same, others)

pub overflow_add-result-3 : goal.overflow_add-result-3
overflow_add-result-3 c =
    let few = few_params c.args.valid.now c.requires.valid.formed c.args.number c.args.function.now c.requires.typed in
    let fewer = few_locals c.args.valid.now c.requires.valid.formed c.args.number c.args.body.now c.requires.there in
    let same = ap (λ (ts : List ValType). length ts) c.as_slice.ensures in
    let others = ap (λ (ts : List ValType). length ts) c.as_slice-2.ensures in
    omega (arith, few, fewer, same, others)

pub returns : goal.returns
returns c =
    let due = shape_is c.args.valid.now c.args.number c.args.function.now c.args.body.now c.height-operands.result c.nest-blocks.result c.requires.typed c.requires.there
    c.height-operands.ensures c.nest-blocks.ensures in
    cc (due, c.as_slice.ensures, c.as_slice-2.ensures, c.is_some.ensures)
