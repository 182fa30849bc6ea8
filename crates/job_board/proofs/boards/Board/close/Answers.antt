use Rattle.std.proofs.Common.{◌≡◌, ℕ, ◌+◌, ◌<◌, ◌≤◌, true, false, List, ◌++◌, map, length, drop, sym, ap, ◌∙◌, subst, arith, Option, Some}
use Rattle.job_board.proofs.Opening.{Lies, closes}
use Rattle.job_board.proofs.Closing.{still_filled, still_empty, gathered, gathers, whole, lies_some, lies_as, lies_left}
use Rattle.job_board.specs.Boarding.{BoardView, PassView}
use Rattle.job_board.proofs.boards.Board.close.Goals as goal

pub loop-slot-init : goal.loop-slot-init
loop-slot-init g c =
    let slots = c.close_with-closed.result.slots in
    let fixed : c.self.inside.table.shared.key.fixed ≡ true = ap (λ (b : BoardView g.row.J.Denot). b.terms.fixed) c.self.view_is ∙ c.requires.made_of_jobs in
    let words = ap (λ (b : BoardView g.row.J.Denot). b.id.words) c.self.view_is in (
      ap (λ (l : List g.row.J.Denot). map Some l ++ slots.items) c.self.invariant.2,
      (λ place inside.
          lies_as g.J.Placed.place_of g.J.Placed.kind_of g.J.Placed.turns_of (λ q f j. g.J.Placed.belongs q (g.J.Placed.request_of f) j) _ _ _ _ slots.items place
          (ap (λ (b : BoardView g.row.J.Denot). b.terms) c.self.view_is) (ap (λ (p : PassView g.row.J.Denot). p.notes) c.pass.view_is)
          (closes g.J.Placed.place_of g.J.Placed.kind_of g.J.Placed.turns_of (λ q f j. g.J.Placed.belongs q (g.J.Placed.request_of f) j) _ _ _ _ slots.items fixed
          (ap (λ (p : PassView g.row.J.Denot). p.parts) c.pass.view_is ∙ c.requires.all) (ap (λ (p : PassView g.row.J.Denot). p.held) c.pass.view_is ∙ c.requires.free) c.close_with-closed.ensures.values.2 place inside)),
      sym slots.ok.0,
      c.close_with-closed.ensures.counts.1 ∙ (sym c.self.invariant.0 ∙ words),
      omega (arith, c.close_with-closed.ensures.counts.1, c.self.invariant.0, c.self.invariant.3 fixed),
      (λ k low high. c.close_with-closed.ensures.values.1 k low high),
      (λ k low. absurd (omega arith)),
    )

pub gather-requires-clause-some : goal.gather-requires-clause-some
gather-requires-clause-some g c =
    let slots = c.loop-slot.closed.slots in
    let words = ap (λ (b : BoardView g.row.J.Denot). b.id.words) c.self.view_is in
    let inside : c.loop-slot.slot < length slots.items =
    omega (arith, c.loop-slot-test.true, c.slot_count-slot-end.ensures, c.close_with-closed.ensures.counts.1, c.self.invariant.0, words, c.loop-slot.invariant.2, c.loop-slot.invariant.3) in
    lies_some g.J.Placed.place_of g.J.Placed.kind_of g.J.Placed.turns_of (λ q f j. g.J.Placed.belongs q (g.J.Placed.request_of f) j) _ _ slots.items c.loop-slot.slot _ (c.loop-slot.invariant.1 c.loop-slot.slot inside) c.take.ensures.value

pub loop-slot-preserved : goal.loop-slot-preserved
loop-slot-preserved g c =
    let slots = c.loop-slot.closed.slots in
    let inv = c.loop-slot.invariant in
    let i = c.loop-slot.slot in
    let same = c.take.ensures.others.0 in
    let long = c.take.ensures.others.2 in
    let words = ap (λ (b : BoardView g.row.J.Denot). b.id.words) c.self.view_is in
    let inside : i < slots.len =
    omega (arith, c.loop-slot-test.true, c.slot_count-slot-end.ensures, c.close_with-closed.ensures.counts.1, c.self.invariant.0, words, inv.2, inv.3) in (
      subst (λ (l : List (Option g.row.J.Denot)). map Some c.gather.new.jobs.items ++ drop (i + 1) l ≡ l) (sym same) (gathers c.loop-slot.jobs.items c.gather.new.jobs.items slots.items i _ inv.0 c.take.ensures.value c.gather.ensures.jobs),
      (λ place there.
          subst (λ (l : List (Option g.row.J.Denot)). Lies g.J.Placed.place_of g.J.Placed.kind_of g.J.Placed.turns_of (λ q f j. g.J.Placed.belongs q (g.J.Placed.request_of f) j) c.args.self.terms c.args.pass.notes l place) (sym same)
          (inv.1 place (subst (λ (l : List (Option g.row.J.Denot)). place < length l) same there))),
      ap (λ (l : List (Option g.row.J.Denot)). length l) same ∙ (inv.2 ∙ sym long),
      long ∙ inv.3,
      omega (arith, long, inv.4, c.gather.ensures.room),
      (λ k low high.
          ap (λ l. Rattle.std.specs.List.slice_index_or l k false) c.take.ensures.others.1 ∙ still_filled slots.filled i slots.len inv.5 k low (omega (arith, long, high))),
      (λ k low.
          ap (λ l. Rattle.std.specs.List.slice_index_or l k false) c.take.ensures.others.1 ∙ still_empty slots.filled i (omega (arith, slots.ok.1, inside)) inv.6 k low),
    )

pub free-requires : goal.free-requires
free-requires g c =
    let words = ap (λ (b : BoardView g.row.J.Denot). b.id.words) c.self.view_is in
    λ k low. c.loop-slot.invariant.6 k (omega (arith, low, c.loop-slot-test.false, c.slot_count-slot-end.ensures, c.close_with-closed.ensures.counts.1, c.self.invariant.0, words, c.loop-slot.invariant.3))

pub returns-clause-jobs : goal.returns-clause-jobs
returns-clause-jobs g c =
    let slots = c.loop-slot.closed.slots in
    let words = ap (λ (b : BoardView g.row.J.Denot). b.id.words) c.self.view_is in
    let over : length slots.items ≤ c.loop-slot.slot =
    omega (arith, c.loop-slot-test.false, c.slot_count-slot-end.ensures, c.close_with-closed.ensures.counts.1, c.self.invariant.0, words, c.loop-slot.invariant.2, c.loop-slot.invariant.3) in
    lies_left g.J.Placed.place_of g.J.Placed.kind_of g.J.Placed.turns_of (λ q f j. g.J.Placed.belongs q (g.J.Placed.request_of f) j) _ _ slots.items c.loop-slot.jobs.items (whole c.loop-slot.jobs.items slots.items c.loop-slot.slot c.loop-slot.invariant.0 over) c.loop-slot.invariant.1
