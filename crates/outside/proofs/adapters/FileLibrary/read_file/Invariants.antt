use Rattle.std.proofs.Common.{◌+◌, ◌≤◌, vec_len}
use Rattle.outside.proofs.adapters.FileLibrary.read_file.Given as goal

-- the bytes so far are at most one more than asked for, and the count never falls
abbrev pub invariant-loop : goal.invariant-loop
invariant-loop g l = (vec_len l.bytes ≤ l.most + 1) × (l.fn.self ≤ l.self)
