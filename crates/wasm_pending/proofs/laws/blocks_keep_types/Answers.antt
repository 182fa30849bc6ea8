use Rattle.wasm_pending.proofs.Blocks.{block_typed, loop_typed, if_typed, if_else_typed, block_ends, loop_ends}
use Rattle.wasm_pending.proofs.laws.blocks_keep_types.Goals as goal

pub returns-clause-block : goal.returns-clause-block
returns-clause-block c = block_typed

pub returns-clause-turn : goal.returns-clause-turn
returns-clause-turn c = loop_typed

pub returns-clause-choice : goal.returns-clause-choice
returns-clause-choice c = if_typed

pub returns-clause-either : goal.returns-clause-either
returns-clause-either c = if_else_typed

pub returns-clause-end_of_block : goal.returns-clause-end_of_block
returns-clause-end_of_block c = block_ends

pub returns-clause-end_of_loop : goal.returns-clause-end_of_loop
returns-clause-end_of_loop c = loop_ends
