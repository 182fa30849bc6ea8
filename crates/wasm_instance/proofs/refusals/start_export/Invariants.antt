-- No export so far has the name.
use Rattle.std.proofs.Common.{◌≡◌, drop}
use Rattle.wasm_meaning.specs.Linking.{export_named, entry_name}
use Rattle.wasm_instance.proofs.refusals.start_export.Given as goal

abbrev pub invariant-loop-export : goal.invariant-loop-export
invariant-loop-export l = export_named entry_name (drop l.export-index l.exports) ≡ export_named entry_name l.exports
