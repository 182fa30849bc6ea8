-- The modules of the load are programs: their bytes spell modules that are valid and linked. The checker computes it.
use Rattle.std.proofs.Common.{refl}
use Rattle.std.specs.Prelude.{IsOk}
use Rattle.std.specs.Str.{chars, is_utf8}
use lib.Utf8.{encode}
use Rattle.wasm_code.specs.Bodies.{body_from}
use Rattle.wasm_meaning.specs.Linking.{link_refusal}
use Rattle.wasm_meaning.specs.Validity.{module_walk, outside_walk, bodies_walk, imports_walk, functions_walk, tables_walk, memories_walk, globals_walk, exports_walk, start_walk, elements_walk, segments_walk}
use Rattle.module_files.specs.FilePrograms.{program_of}
use Rattle.generated_load.specs.Modules.{nil_module, trap_module, loop_module, echo_module}

pub nil_accepted : IsOk (program_of 1 nil_module)
unfolding nil_module program_of is_utf8 chars encode body_from module_walk outside_walk bodies_walk imports_walk functions_walk tables_walk memories_walk globals_walk exports_walk start_walk elements_walk segments_walk link_refusal
nil_accepted = refl

pub trap_accepted : IsOk (program_of 1 trap_module)
unfolding trap_module program_of is_utf8 chars encode body_from module_walk outside_walk bodies_walk imports_walk functions_walk tables_walk memories_walk globals_walk exports_walk start_walk elements_walk segments_walk link_refusal
trap_accepted = refl

pub loop_accepted : IsOk (program_of 1 loop_module)
unfolding loop_module program_of is_utf8 chars encode body_from module_walk outside_walk bodies_walk imports_walk functions_walk tables_walk memories_walk globals_walk exports_walk start_walk elements_walk segments_walk link_refusal
loop_accepted = refl

pub echo_accepted : IsOk (program_of 2 echo_module)
unfolding echo_module program_of is_utf8 chars encode body_from module_walk outside_walk bodies_walk imports_walk functions_walk tables_walk memories_walk globals_walk exports_walk start_walk elements_walk segments_walk link_refusal
echo_accepted = refl
