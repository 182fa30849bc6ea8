-- One more import.
use Rattle.std.proofs.Common.{◌≡◌, ◌<◌, List, length, get_or, arith, ap}
use Rattle.wasm_ops.specs.declared.modules.Import.{Import}
use Rattle.wasm_meaning.specs.Linking.{host_in}
use Rattle.wasm_instance.proofs.Functions.{next_host}
use Rattle.wasm_instance.proofs.tables.hosts_of.Goals as goal

pub loop-import-preserved : goal.loop-import-preserved
loop-import-preserved c =
    let all : c.as_slice-import-items.result.now ≡ c.args.«module».now.imports = cc c.as_slice-import-items.ensures in
    let lt : c.loop-import.import-index < length c.args.«module».now.imports = omega (arith, ap (λ (xs : List Import). length xs) all) in
    let at : c.import-item.result ≡ get_or c.args.«module».now.imports c.loop-import.import-index c.import-item.result = cc (all, c.import-item.is) in
    let named : c.host_in.result ≡ host_in c.import-item.result.«module» c.import-item.result.name = cc (c.host_in.ensures, c.as_str.ensures, c.as_str-in-loop-import.ensures) in
    next_host c.args.«module».now.imports c.loop-import.import-index c.import-item.result c.host_in.result c.loop-import.all.items c.push_some.new.all.items
    lt at named c.loop-import.invariant c.in_ok-push_some.ensures
