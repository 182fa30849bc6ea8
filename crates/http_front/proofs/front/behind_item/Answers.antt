-- No head stands in front of no bytes.
use Rattle.std.proofs.Common.{ℕ, List, length, ap, ◌∙◌, arith}
use Rattle.http_items.specs.Heads.{head_in}
use Rattle.http_items.proofs.FrontLaws.{head_in_nothing}
use Rattle.http_front.proofs.front.behind_item.Goals as goal

pub invariant_of-result : goal.invariant_of-result
invariant_of-result c =
    let size = ap (λ (t : List ℕ). length t) c.new.ensures.items in
    record { no_head = ap head_in c.new.ensures.items ∙ head_in_nothing; below = omega arith }
