-- What is loaded, from the program of each file.
use Rattle.std.proofs.Common.{◌≡◌, [], ◌∷◌, Result, Ok, Err, refl}
use Rattle.std.specs.Prelude.{IsOk}
use Rattle.wasm_meaning.specs.Programs.{Program}
use Rattle.serve_config.specs.Routing.{all_routes}
use Rattle.serve_config.specs.Loading.{loaded}
use Rattle.module_files.specs.FilePrograms.{program_of}
use Rattle.generated_load.specs.Configuration.{soak_configuration}
use Rattle.generated_load.specs.Modules.{nil_module, trap_module, loop_module, echo_module, soak_files}

pub all_loaded : (nil trap endless echo : Program)
    → program_of 1 nil_module ≡ Ok nil → program_of 1 trap_module ≡ Ok trap → program_of 1 loop_module ≡ Ok endless → program_of 2 echo_module ≡ Ok echo
    → loaded soak_files 0 (all_routes soak_configuration.tenants) ≡ Ok (nil ∷ trap ∷ endless ∷ echo ∷ [])
all_loaded nil trap endless echo a b c d = rw (a, b, c, d) refl

-- Each is made, so all are.

found : {T E : Type 0} (result : Result T E) → IsOk result → (x : T) × (result ≡ Ok x)
found (Ok x) is = (x, refl)
found (Err why) is = cc

given : {T E : Type 0} (result : Result T E) (x : T) → result ≡ Ok x → IsOk result
given (Ok y) x is = refl
given (Err why) x is = cc

pub all_made : IsOk (program_of 1 nil_module) → IsOk (program_of 1 trap_module) → IsOk (program_of 1 loop_module) → IsOk (program_of 2 echo_module)
    → IsOk (loaded soak_files 0 (all_routes soak_configuration.tenants))
all_made nil trap endless echo =
    let n = found (program_of 1 nil_module) nil in
    let t = found (program_of 1 trap_module) trap in
    let l = found (program_of 1 loop_module) endless in
    let e = found (program_of 2 echo_module) echo in
    given (loaded soak_files 0 (all_routes soak_configuration.tenants)) (n.0 ∷ t.0 ∷ l.0 ∷ e.0 ∷ []) (all_loaded n.0 t.0 l.0 e.0 n.1 t.1 l.1 e.1)
