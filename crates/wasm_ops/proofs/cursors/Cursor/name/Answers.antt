-- What is taken is what the grammar has there.
use Rattle.wasm_ops.proofs.NameLaws.{name_taken}
use Rattle.wasm_ops.proofs.cursors.Cursor.name.Goals as goal

pub returns-clause-found : goal.returns-clause-found
returns-clause-found c = (name_taken _ _ _ c.take_name.ensures).found

pub returns-clause-shorter : goal.returns-clause-shorter
returns-clause-shorter c = (name_taken _ _ _ c.take_name.ensures).shorter

pub returns-clause-only : goal.returns-clause-only
returns-clause-only c = λ first len after. (name_taken _ _ _ c.take_name.ensures).only (first, len) after

pub returns-clause-refused : goal.returns-clause-refused
returns-clause-refused c = (name_taken _ _ _ c.take_name.ensures).refused

pub returns-clause-only_refused : goal.returns-clause-only_refused
returns-clause-only_refused c = (name_taken _ _ _ c.take_name.ensures).only_refused
