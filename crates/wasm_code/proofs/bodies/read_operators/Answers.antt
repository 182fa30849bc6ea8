-- The next item goes on, ends the body, or is refused.
use Rattle.std.proofs.Common.{sym, ◌∙◌}
use Rattle.std.proofs.lemmas.Result.{err_from_is_err_and}
use Rattle.wasm_code.proofs.OperatorSteps.{goes_on, takes_byte, item_refused, turn_refused, rest_refused, whole_spelt}
use Rattle.wasm_code.proofs.bodies.read_operators.Goals as goal

pub returns-in_err-item-clause-refused : goal.returns-in_err-item-clause-refused
returns-in_err-item-clause-refused c =
    let p = err_from_is_err_and c.from_residual.result c.from_residual.ensures.1 in
    rw (p.1, p.2)
    (item_refused _ c.items.laying c.items.targets.items c.items.cursor c.in_err-item.field-0.0 c.items.invariant
    (rw c.depth.ensures at c.in_err-item.ensures))

pub items-smaller : goal.items-smaller
items-smaller c =
    takes_byte c.items.laying c.items.targets.items c.items.cursor _ c.read_item.new.cursor (rw c.depth.ensures at c.in_ok-item.ensures)

pub items-preserved : goal.items-preserved
items-preserved c =
    rw c.in_ok-take.ensures.laid
    (goes_on _ c.items.laying c.items.targets.items c.items.cursor c.in_ok-item.item c.read_item.new.targets.items c.read_item.new.cursor
    c.items.invariant (rw c.depth.ensures at c.in_ok-item.ensures) (sym c.in_ok-take.ensures.stands ∙ c.in-Inside.is))

pub returns-in-Misplaced-clause-refused : goal.returns-in-Misplaced-clause-refused
returns-in-Misplaced-clause-refused c =
    rw (c.at.ensures, c.at-at.ensures.place)
    (turn_refused _ c.items.laying c.items.targets.items c.items.cursor c.in_ok-item.item c.read_item.new.targets.items c.read_item.new.cursor
    c.items.invariant (rw c.depth.ensures at c.in_ok-item.ensures) (sym c.in_ok-take.ensures.stands ∙ c.in-Misplaced.is))

pub returns-then-not-is_at_end-clause-refused : goal.returns-then-not-is_at_end-clause-refused
returns-then-not-is_at_end-clause-refused c =
    rw (c.at-then-not-is_at_end-2.ensures, c.at-then-not-is_at_end.ensures.place)
    (rest_refused _ c.items.laying c.items.targets.items c.items.cursor c.in_ok-item.item c.read_item.new.targets.items c.read_item.new.cursor
    c.items.invariant (rw c.depth.ensures at c.in_ok-item.ensures) (sym c.in_ok-take.ensures.stands ∙ c.in-Last.is)
    (λ none. let ends = c.is_at_end.ensures.1 none in let bad : ⊥ = cc in bad))

pub returns-in-Last-clause-found : goal.returns-in-Last-clause-found
returns-in-Last-clause-found c =
    rw (c.into_ops.ensures, c.in_ok-take.ensures.laid)
    (whole_spelt _ c.items.laying c.items.targets.items c.items.cursor c.in_ok-item.item c.read_item.new.targets.items c.read_item.new.cursor
    c.items.invariant (rw c.depth.ensures at c.in_ok-item.ensures) (sym c.in_ok-take.ensures.stands ∙ c.in-Last.is)
    (c.is_at_end.ensures.0 c.if-not-is_at_end.false))
