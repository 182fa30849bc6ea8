-- What is taken is what the grammar has there.
use Rattle.wasm_ops.proofs.InputLaws.{taken}
use Rattle.wasm_ops.proofs.cursors.Cursor.number.Goals as goal

pub returns-clause-found : goal.returns-clause-found
returns-clause-found c = (taken _ _ _ _ _ c.requires.some c.take_number.ensures.value).found

pub returns-clause-shorter : goal.returns-clause-shorter
returns-clause-shorter c = (taken _ _ _ _ _ c.requires.some c.take_number.ensures.value).shorter

pub returns-clause-only : goal.returns-clause-only
returns-clause-only c = (taken _ _ _ _ _ c.requires.some c.take_number.ensures.value).only

pub returns-clause-refused : goal.returns-clause-refused
returns-clause-refused c = (taken _ _ _ _ _ c.requires.some c.take_number.ensures.value).refused

pub returns-clause-only_refused : goal.returns-clause-only_refused
returns-clause-only_refused c = (taken _ _ _ _ _ c.requires.some c.take_number.ensures.value).only_refused
