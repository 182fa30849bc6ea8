use Rattle.std.proofs.Common.{arith, Bool, List, ap, sym, ◌∙◌}
use Rattle.std.specs.List.{count_by}
use Rattle.wasm_store.proofs.MarkLemmas.{told_seen, written_marked}
use Rattle.wasm_store.proofs.extents.Extent.marked.Goals as goal

pub returns-clause-clean : goal.returns-clause-clean
returns-clause-clean c none =
    told_seen _ _ _ _ c.self.view_is c.self.invariant.4 (omega (arith, c.self.invariant.1, c.self.invariant.3))
    (ap (λ (marks : List Bool). count_by (λ (mark : Bool). mark) marks) (sym c.as_slice.ensures.value) ∙ sym c.count_set.ensures ∙ none)

pub returns-clause-least : goal.returns-clause-least
returns-clause-least c used fits =
    written_marked _ _ _ _ _ c.self.view_is c.self.invariant.4 (omega (arith, c.self.invariant.1, c.self.invariant.3))
    (ap (λ (marks : List Bool). count_by (λ (mark : Bool). mark) marks) (sym c.as_slice.ensures.value) ∙ sym c.count_set.ensures)
    used fits
