-- The labels that are left, behind those so far, are the labels of the whole.
use Rattle.std.proofs.Common.{◌≡◌, ◌-◌}
use Rattle.wasm_code.specs.Items.{labels_from}
use Rattle.wasm_code.proofs.labels.labels.Given as goal

abbrev pub invariant-loop : goal.invariant-loop
invariant-loop l = labels_from (l.count - l.counter) l.targets.items l.cursor ≡ labels_from l.count l.fn.targets.items l.fn.cursor
