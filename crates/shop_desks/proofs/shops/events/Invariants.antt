use Rattle.std.proofs.Common.{◌≡◌, ◌≤◌, length, vec_capacity}
use Rattle.shop_desks.proofs.shops.events.Given as goal

abbrev pub invariant-loop-place : goal.invariant-loop-place
invariant-loop-place l = (length l.all.items ≡ l.place) × (256 ≤ vec_capacity l.all)
