-- Those of the imports so far.
use Rattle.std.proofs.Common.{◌≡◌, filter_map, take}
use Rattle.wasm_ops.specs.declared.modules.Import.{Import}
use Rattle.wasm_meaning.specs.Linking.{host_in}
use Rattle.wasm_instance.proofs.tables.hosts_of.Given as goal

abbrev pub invariant-loop-import : goal.invariant-loop-import
invariant-loop-import l = l.all.items ≡ filter_map (λ (import : Import). host_in import.«module» import.name) (take l.import-index l.«module».imports)
