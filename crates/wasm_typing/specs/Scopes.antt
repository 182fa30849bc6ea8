-- What the walk over a body's operators looks up.
use Rattle.std.specs.Prelude.{List, [], ◌∷◌, ◌++◌, map, Option}
use Rattle.wasm_ops.specs.declared.types.ValType.{ValType}
use Rattle.wasm_meaning.specs.Typing.{Context, label_of}
use Rattle.wasm_typing.specs.declared.scopes.Scope.{Scope}
use Rattle.wasm_typing.specs.Open.{Block, Open}

-- outside of all blocks the function's own label is the one that there is
abbrev pub context : Scope → Context
context scope = record {
  whole = scope.whole.now;
  locals = scope.locals.now;
  targets = scope.targets.now;
  result = scope.result;
  labels = scope.result ∷ [];
}

abbrev pub block_label : Block → Option ValType
block_label b = label_of b.kind b.result

-- the blocks have labels, the inmost first
abbrev pub inside : Context → List Block → Context
inside cx around = record cx { labels = map block_label around ++ cx.labels }

-- what an operator's rule speaks of, where these blocks are open
abbrev pub context_at : Scope → Open → Context
context_at scope walk = inside (context scope) walk.blocks.around
