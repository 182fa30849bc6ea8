-- The sequence that a body is typed as.
use Rattle.std.proofs.Common.{◌≡◌, List, Option, ap}
use Rattle.wasm_ops.specs.declared.operators.Op.{Op}
use Rattle.wasm_ops.specs.Sequence.{Sequence}
use Rattle.wasm_ops.specs.Nested.{Ahead, IsBodyOf}
use Rattle.wasm_ops.proofs.NestedLaws.{ahead_of-body}
use Rattle.wasm_meaning.specs.Typing.{sequence_in, nested_body}

-- it is the one that the operators are the flat form of
pub nested_is : (ops : List Op) (s : Sequence) → IsBodyOf s ops → nested_body ops ≡ s
nested_is ops s is = ap (λ (ahead : Option (List Ahead)). sequence_in ahead) (ahead_of-body ops s is)
