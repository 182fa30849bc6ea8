-- The next thing is read, or refused, as the next of those that are left.
use Rattle.std.proofs.Common.{◌≡◌, suc, ◌+◌, [], ◌-◌, sym, ◌∙◌, arith}
use Rattle.std.proofs.lemmas.Result.{err_from_is_err_and}
use Rattle.wasm_reader.specs.Syntax.{items_from, kept}
use Rattle.wasm_reader.proofs.Loops.{item_goes, item_refused, kept_more}
use Rattle.wasm_reader.proofs.vectors.items.Goals as goal

pub returns-in_err-next : goal.returns-in_err-next
returns-in_err-next g c =
    let p = err_from_is_err_and c.from_residual.result c.from_residual.ensures.1 in
    let e : c.args.count - c.loop.counter ≡ suc (c.args.count - (c.loop.counter + 1)) = omega arith in
    let whole = items_from c.args.count (λ so_far. g.K.ItemKind.syntax (kept g.K.ItemKind.after c.args.kind so_far)) [] c.args.cursor.now in
    rw (p.1, p.2)
    (item_refused (c.args.count - c.loop.counter) (c.args.count - (c.loop.counter + 1)) (λ so_far. g.K.ItemKind.syntax (kept g.K.ItemKind.after c.args.kind so_far)) c.loop.items.items c.loop.cursor whole c.in_err-next.field-0.0 e c.loop.invariant.same
    (rw c.loop.invariant.known at c.in_err-next.ensures.read))

pub loop-preserved : goal.loop-preserved
loop-preserved g c =
    let e : c.args.count - c.loop.counter ≡ suc (c.args.count - (c.loop.counter + 1)) = omega arith in
    record {
      same =
          rw c.in_ok-push.ensures.items
          (item_goes (c.args.count - c.loop.counter) (c.args.count - (c.loop.counter + 1)) (λ so_far. g.K.ItemKind.syntax (kept g.K.ItemKind.after c.args.kind so_far)) c.loop.items.items c.loop.cursor c.in_ok-next.field-0 c.next.new.cursor e
          (rw c.loop.invariant.known at c.in_ok-next.ensures.read)
          ∙ c.loop.invariant.same);
      known =
          rw (c.in_ok-push.ensures.items, kept_more g.K.ItemKind.after c.args.kind c.loop.items.items c.in_ok-next.field-0, sym c.loop.invariant.known)
          c.in_ok-next.ensures.known;
    }
