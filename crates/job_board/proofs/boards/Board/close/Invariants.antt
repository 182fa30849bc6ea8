use Rattle.std.proofs.Common.{◌≡◌, ℕ, ◌+◌, ◌<◌, ◌≤◌, true, false, ◌++◌, map, length, drop, get_or, vec_capacity, Some}
use Rattle.job_board.proofs.Opening.{Lies}
use Rattle.job_board.proofs.boards.Board.close.Given as goal

abbrev pub invariant-loop-slot : goal.invariant-loop-slot
invariant-loop-slot g l =
    (map Some l.jobs.items ++ drop l.slot l.closed.slots.items ≡ l.closed.slots.items)
    × ((place : ℕ) → place < length l.closed.slots.items → Lies g.J.Placed.place_of g.J.Placed.kind_of g.J.Placed.turns_of (λ q f j. g.J.Placed.belongs q (g.J.Placed.request_of f) j) l.fn.self.terms l.fn.pass.notes l.closed.slots.items place)
    × (length l.closed.slots.items ≡ l.closed.slots.len)
    × (l.closed.slots.len ≡ l.fn.self.id.words)
    × (l.closed.slots.len ≤ vec_capacity l.jobs)
    × ((k : ℕ) → l.slot ≤ k → k < l.closed.slots.len → get_or l.closed.slots.filled k false ≡ true)
    × ((k : ℕ) → k < l.slot → get_or l.closed.slots.filled k false ≡ false)
