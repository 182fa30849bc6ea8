-- What is put together from the rest of a number and seven lower bits is a number of that many bits, which a `u64` holds.
use Rattle.std.proofs.Common.{arith}
use Rattle.wasm_ops.proofs.Powers.{seven_lower, fits_64}
use Rattle.wasm_ops.proofs.numbers.+read_number.Goals as goal

pub overflow_mul-result : goal.overflow_mul-result
overflow_mul-result t c =
    omega (arith, fits_64 c.args.bits _ c.requires.fits (seven_lower c.args.bits c.in_ok-high.high 0 (omega arith) c.in_ok-high.ensures.below (omega arith)))

pub overflow_add-result : goal.overflow_add-result
overflow_add-result t c =
    omega (arith, fits_64 c.args.bits _ c.requires.fits (seven_lower c.args.bits c.in_ok-high.high c.from.result (omega arith) c.in_ok-high.ensures.below (omega arith)))

pub returns-clause-below : goal.returns-clause-below
returns-clause-below t c = seven_lower c.args.bits c.in_ok-high.high c.from.result (omega arith) c.in_ok-high.ensures.below (omega arith)
