-- The things that are left, behind those so far, are the things of the whole.
use Rattle.std.proofs.Common.{◌≡◌, ◌-◌, []}
use Rattle.wasm_reader.specs.Syntax.{items_from, kept}
use Rattle.wasm_reader.proofs.vectors.items.Given as goal

abbrev pub invariant-loop : goal.invariant-loop
invariant-loop g l =
    record {
      same :
          items_from (l.count - l.counter) (λ so_far. g.K.ItemKind.syntax (kept g.K.ItemKind.after l.fn.kind so_far)) l.items.items l.cursor
          ≡ items_from l.fn.count (λ so_far. g.K.ItemKind.syntax (kept g.K.ItemKind.after l.fn.kind so_far)) [] l.fn.cursor;
      known : l.kind ≡ kept g.K.ItemKind.after l.fn.kind l.items.items;
    }
