-- No item so far breaks a rule.
use Rattle.std.proofs.Common.{◌≡◌, drop}
use Rattle.wasm_meaning.specs.Linking.{first_refused, import_refusal}
use Rattle.wasm_instance.proofs.refusals.imports_refusal.Given as goal

abbrev pub invariant-loop-import : goal.invariant-loop-import
invariant-loop-import l = record {
  place : l.item ≡ l.import-index;
  same : first_refused (import_refusal l.types) l.item (drop l.import-index l.imports) ≡ first_refused (import_refusal l.types) 0 l.imports;
}
