-- The first table: empty places, and the segments laid on them.
use Rattle.std.proofs.Common.{◌∙◌}
use Rattle.wasm_instance.proofs.FreshFacts.{elements_fit}
use Rattle.wasm_instance.proofs.fresh_states.lay_table.Goals as goal

pub lay_elements-requires-clause-within : goal.lay_elements-requires-clause-within
lay_elements-requires-clause-within c =
    elements_fit c.args.program.now c.args.vessel.now c.add_elements.new.self c.module-module.result.now c.first_elements.result c.as_slice.result.now
    c.valid.ensures.program (c.module-module.ensures.same ∙ c.valid.ensures.linked) c.first_elements.ensures c.as_slice.ensures c.requires.none c.add_elements.ensures
