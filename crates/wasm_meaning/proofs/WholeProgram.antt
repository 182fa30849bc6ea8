-- A module of one function that does nothing is a program: what the laws ask of programs can be met.
use Rattle.std.proofs.Common.{[], refl, arith}
use Rattle.wasm_ops.specs.Sequence.{Done}
use Rattle.wasm_ops.specs.WellFormed.{IsWellFormed, IsWellFormedBody}
use Rattle.wasm_meaning.proofs.Modules.{alone, body_of}
use Rattle.wasm_meaning.specs.Linking.{link_refusal}
use Rattle.wasm_meaning.specs.Programs.{IsProgram}
use Rattle.wasm_meaning.specs.Validity.{module_walk, outside_walk, bodies_walk, imports_walk, functions_walk, tables_walk, memories_walk, globals_walk, exports_walk, start_walk, elements_walk, segments_walk}

body_formed : IsWellFormedBody (body_of [] Done)
body_formed = record {
  sequence = Done;
  stands = record { nested = tt; laid_out = refl };
  operators = (tt, tt);
  few_operators = omega arith;
  few_targets = omega arith;
  few_locals = omega arith;
}

module_formed : IsWellFormed (alone Done)
module_formed = record {
  items = record {
    types = (omega arith, tt);
    imports = tt;
    tables = tt;
    globals = tt;
    exports = (omega arith, tt);
    elements = tt;
    bodies = (body_formed, tt);
    segments = tt;
  };
  limits = record {
    types = omega arith;
    imports = omega arith;
    functions = omega arith;
    tables = omega arith;
    memories = omega arith;
    globals = omega arith;
    exports = omega arith;
    elements = omega arith;
    segments = omega arith;
  };
  as_many_bodies = refl;
}

least_program : IsProgram (record { linked = alone Done; pages = 1 })
unfolding module_walk outside_walk bodies_walk imports_walk functions_walk tables_walk memories_walk globals_walk exports_walk start_walk elements_walk segments_walk link_refusal
least_program = record { formed = module_formed; valid = refl; links = refl }
