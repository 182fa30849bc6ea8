-- The first memory: zeros, and the segments laid on them.
use Rattle.wasm_instance.proofs.FreshFacts.{grown_first, segments_fit, laid_first}
use Rattle.wasm_instance.proofs.fresh_states.lay_memory.Goals as goal
use Rattle.std.proofs.Common.{◌∙◌}

pub lay_segments-requires : goal.lay_segments-requires
lay_segments-requires c =
    let p = c.args.program.now in
    let same = c.module-module.ensures.same ∙ c.valid.ensures.linked in
    let grew = grown_first p c.args.vessel.now c.grow.new.self c.module-module.result.now c.first_pages.result c.most.result c.valid.ensures.program same
    c.first_pages.ensures c.most.ensures c.requires.none c.grow.ensures.memory in
    record { within = segments_fit p c.args.vessel.now c.grow.new.self c.module-module.result.now c.as_slice.result.now c.valid.ensures.program same c.as_slice.ensures grew }

pub returns : goal.returns
returns c =
    let p = c.args.program.now in
    let same = c.module-module.ensures.same ∙ c.valid.ensures.linked in
    let grew = grown_first p c.args.vessel.now c.grow.new.self c.module-module.result.now c.first_pages.result c.most.result c.valid.ensures.program same
    c.first_pages.ensures c.most.ensures c.requires.none c.grow.ensures.memory in
    laid_first p c.args.vessel.now c.grow.new.self c.lay_segments.new.vessel c.module-module.result.now c.as_slice.result.now same c.as_slice.ensures grew c.lay_segments.ensures
