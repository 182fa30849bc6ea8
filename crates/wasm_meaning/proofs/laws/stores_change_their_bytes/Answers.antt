use Rattle.wasm_meaning.proofs.MemoryLaws.{store_stores, store_refused}
use Rattle.wasm_meaning.proofs.laws.stores_change_their_bytes.Goals as goal

pub returns-clause-stores : goal.returns-clause-stores
returns-clause-stores c = store_stores

pub returns-clause-refused : goal.returns-clause-refused
returns-clause-refused c = store_refused
