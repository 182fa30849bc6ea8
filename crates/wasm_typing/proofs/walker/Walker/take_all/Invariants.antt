-- The types up to the place are left to be taken.
use Rattle.std.proofs.Common.{◌≡◌, ◌≤◌, reverse, take, length}
use Rattle.wasm_meaning.specs.TypingOperands.{take_all as take_all_walk}
use Rattle.wasm_typing.specs.Open.{height}
use Rattle.wasm_typing.proofs.walker.Walker.take_all.Given as goal

abbrev pub invariant-loop-left : goal.invariant-loop-left
invariant-loop-left l = record {
  within : l.left ≤ length l.types;
  same : take_all_walk (reverse (take l.left l.types)) l.self.now ≡ take_all_walk (reverse l.fn.types) l.fn.self.now;
  blocks : l.self.blocks ≡ l.fn.self.blocks;
  place : l.self.now.place ≡ l.fn.self.now.place;
  height : height l.self.now ≤ height l.fn.self.now;
}

abbrev pub decreases-loop-left : goal.decreases-loop-left
decreases-loop-left l = l.left
