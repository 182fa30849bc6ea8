use Rattle.std.proofs.Common.{arith, ◌+◌, ◌≤◌, ◌∙◌, length, subst, sym, ℕ}
use Rattle.wasm_store.specs.Marks.{Covers}
use Rattle.wasm_store.proofs.StripLemmas.{length-written}
use Rattle.wasm_store.proofs.MarkLemmas.{told_written}
use Rattle.wasm_store.proofs.extents.Extent.lay_few.Goals as goal

pub invariant_of-self : goal.invariant_of-self
invariant_of-self g c =
    let fits : c.args.at + length c.args.bytes ≤ length c.args.self.now.bytes = omega (arith, c.requires.within, c.requires.fits) in
    let long = length-written _ _ _ c.args.at c.args.bytes c.args.self.now c.self.view_is fits c.put_few.ensures.bytes in
    let covers = subst (λ (n : ℕ). Covers c.self.inside.marks.items c.mark_few.new.marks.items c.args.at n) (sym c.put_few.ensures.count) c.mark_few.ensures in (
      omega (arith, c.self.invariant.0, c.put_few.ensures.room),
      omega (arith, c.self.invariant.1, long),
      c.self.invariant.2,
      c.mark_few.ensures.long ∙ c.self.invariant.3,
      told_written _ _ _ _ _ c.args.at c.args.bytes c.args.self.now c.self.invariant.4 covers c.self.view_is fits c.put_few.ensures.bytes,
    )
