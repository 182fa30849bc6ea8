use Rattle.std.proofs.Common.{◌∙◌, ap, drop}
use Rattle.outside_links.proofs.PieceLaws.{laid}
use Rattle.outside_links.proofs.pieces.Pieces.lay.Goals as goal

-- what was laid down and what is left, by what the piece at hand had left to read

pub returns-clause-laid : goal.returns-clause-laid
returns-clause-laid c =
    c.copy_front-count.ensures.laid ∙ (laid _ c.pass_over.new.piece.items _ c.pass_over.new.at c.pass_over.new.later.items _ _
    (c.pass_over.ensures.same ∙ c.self.view_is) (c.split_at.ensures.back ∙ ap (drop c.pass_over.new.at) c.as_slice.ensures.value)
    c.copy_front-count.ensures.count c.pass_over.ensures.first).next

pub returns-clause-count : goal.returns-clause-count
returns-clause-count c =
    (laid _ c.pass_over.new.piece.items _ c.pass_over.new.at c.pass_over.new.later.items _ _
    (c.pass_over.ensures.same ∙ c.self.view_is) (c.split_at.ensures.back ∙ ap (drop c.pass_over.new.at) c.as_slice.ensures.value)
    c.copy_front-count.ensures.count c.pass_over.ensures.first).count

pub returns-clause-left : goal.returns-clause-left
returns-clause-left c =
    (laid _ c.pass_over.new.piece.items c.split_at.result.1.now c.pass_over.new.at c.pass_over.new.later.items _ _
    (c.pass_over.ensures.same ∙ c.self.view_is) (c.split_at.ensures.back ∙ ap (drop c.pass_over.new.at) c.as_slice.ensures.value)
    c.copy_front-count.ensures.count c.pass_over.ensures.first).left

pub returns-clause-taken : goal.returns-clause-taken
returns-clause-taken c =
    rw c.copy_front-count.ensures.laid (laid _ c.pass_over.new.piece.items _ c.pass_over.new.at c.pass_over.new.later.items _ _
    (c.pass_over.ensures.same ∙ c.self.view_is) (c.split_at.ensures.back ∙ ap (drop c.pass_over.new.at) c.as_slice.ensures.value)
    c.copy_front-count.ensures.count c.pass_over.ensures.first).taken

pub returns-clause-end : goal.returns-clause-end
returns-clause-end c =
    (laid _ c.pass_over.new.piece.items _ c.pass_over.new.at c.pass_over.new.later.items _ _
    (c.pass_over.ensures.same ∙ c.self.view_is) (c.split_at.ensures.back ∙ ap (drop c.pass_over.new.at) c.as_slice.ensures.value)
    c.copy_front-count.ensures.count c.pass_over.ensures.first).end
