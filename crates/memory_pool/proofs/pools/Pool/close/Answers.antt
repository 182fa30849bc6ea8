use Rattle.std.proofs.Common.{◌≡◌, ℕ, ◌+◌, ◌<◌, ◌≤◌, false, List, ◌++◌, length, drop, get_or, replicate, sym, ap, ◌∙◌, subst, arith, Option}
use Rattle.wasm_store.specs.View.{View, empty}
use Rattle.memory_pool.proofs.Ending.{berths_in, Leaves, closes, leaves_as, gathers, whole, still_few, still_filled, still_empty}
use Rattle.memory_pool.specs.Passing.{PoolView, PassView}
use Rattle.memory_pool.proofs.pools.Pool.close.Goals as goal

pub loop-slot-init : goal.loop-slot-init
loop-slot-init c =
    let slots = c.close_with-closed.result.slots in
    let id = ap (λ (p : PoolView). p.id.slots) c.self.view_is in (
      ap (λ (l : List View). l ++ berths_in slots.items) c.self.invariant.3,
      leaves_as _ _ _ _ _ _ slots.items (ap (λ (p : PoolView). p.pages) c.self.view_is) (ap (λ (p : PassView). p.taken) c.pass.view_is) (ap (λ (p : PassView). p.given) c.pass.view_is)
          (closes _ _ _ _ slots.items (ap (λ (p : PassView). p.parts) c.pass.view_is ∙ c.requires.all) c.pass.invariant.1 c.close_with-closed.ensures.values.2),
      sym slots.ok.0,
      c.close_with-closed.ensures.counts.1 ∙ id,
      omega (arith, c.close_with-closed.ensures.counts.1, c.self.invariant.4),
      omega (arith, ap (λ (l : List View). length l) c.self.invariant.3),
      (λ k low high. c.close_with-closed.ensures.values.1 k low high),
      (λ k low. absurd (omega arith)),
    )

pub gather-requires : goal.gather-requires
gather-requires c =
    let id = ap (λ (p : PoolView). p.id.slots) c.self.view_is in
    omega (arith, c.loop-slot-test.true, c.slot_count-slot-end.ensures, c.close_with-closed.ensures.counts.1, id, c.loop-slot.invariant.3, c.loop-slot.invariant.4, c.loop-slot.invariant.5)

pub loop-slot-preserved : goal.loop-slot-preserved
loop-slot-preserved c =
    let slots = c.loop-slot.closed.slots in
    let inv = c.loop-slot.invariant in
    let i = c.loop-slot.slot in
    let same = c.take.ensures.others.0 in
    let long = c.take.ensures.others.2 in
    let id = ap (λ (p : PoolView). p.id.slots) c.self.view_is in
    let inside : i < slots.len = omega (arith, c.loop-slot-test.true, c.slot_count-slot-end.ensures, c.close_with-closed.ensures.counts.1, id, inv.3) in (
      subst (λ (l : List (Option View)). c.gather.new.berths.items ++ berths_in (drop (i + 1) l) ≡ berths_in l) (sym same) (gathers c.loop-slot.berths.items c.gather.new.berths.items slots.items i _ inv.0 c.take.ensures.value c.gather.ensures.berths),
      subst (Leaves c.args.self.pages c.args.pass.taken c.args.pass.given) (sym same) inv.1,
      ap (λ (l : List (Option View)). length l) same ∙ (inv.2 ∙ sym long),
      long ∙ inv.3,
      omega (arith, long, inv.4, c.gather.ensures.room),
      still_few c.loop-slot.berths.items c.gather.new.berths.items i _ inv.5 c.gather.ensures.berths,
      (λ k low high. ap (λ l. get_or l k false) c.take.ensures.others.1 ∙ still_filled slots.filled i slots.len inv.6 k low (omega (arith, long, high))),
      (λ k low. ap (λ l. get_or l k false) c.take.ensures.others.1 ∙ still_empty slots.filled i (omega (arith, slots.ok.1, inside)) inv.7 k low),
    )

pub free-requires : goal.free-requires
free-requires c =
    let id = ap (λ (p : PoolView). p.id.slots) c.self.view_is in
    λ k low. c.loop-slot.invariant.7 k (omega (arith, low, c.loop-slot-test.false, c.slot_count-slot-end.ensures, c.close_with-closed.ensures.counts.1, id, c.loop-slot.invariant.3))

pub returns-clause-count : goal.returns-clause-count
returns-clause-count c =
    let slots = c.loop-slot.closed.slots in
    let id = ap (λ (p : PoolView). p.id.slots) c.self.view_is in
    let over : length slots.items ≤ c.loop-slot.slot = omega (arith, c.loop-slot-test.false, c.slot_count-slot-end.ensures, c.close_with-closed.ensures.counts.1, id, c.loop-slot.invariant.2, c.loop-slot.invariant.3) in
    let all = whole c.loop-slot.berths.items slots.items c.loop-slot.slot c.loop-slot.invariant.0 over in
    omega (arith, ap (λ (l : List View). length l) all, c.loop-slot.invariant.1.count, c.loop-slot.invariant.2, c.loop-slot.invariant.3)

pub returns-clause-berths : goal.returns-clause-berths
returns-clause-berths c =
    let slots = c.loop-slot.closed.slots in
    let id = ap (λ (p : PoolView). p.id.slots) c.self.view_is in
    let over : length slots.items ≤ c.loop-slot.slot = omega (arith, c.loop-slot-test.false, c.slot_count-slot-end.ensures, c.close_with-closed.ensures.counts.1, id, c.loop-slot.invariant.2, c.loop-slot.invariant.3) in
    let all = whole c.loop-slot.berths.items slots.items c.loop-slot.slot c.loop-slot.invariant.0 over in
    all ∙ (c.loop-slot.invariant.1.clean ∙ ap (λ (k : ℕ). replicate k (empty c.args.self.pages)) (sym (ap (λ (l : List View). length l) all)))
