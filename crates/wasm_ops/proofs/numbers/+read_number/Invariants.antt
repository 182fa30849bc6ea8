-- Each byte leaves seven bits fewer to read.
use Rattle.wasm_ops.proofs.numbers.+read_number.Given as goal

abbrev pub decreases-read_number : goal.decreases-read_number
decreases-read_number l = l.bits
