use Rattle.std.proofs.Common.{drop, map}
use Rattle.wasi_calls.specs.Transfers.{buffer_of}
use Rattle.wasi_calls.proofs.BufferLaws.{Laying}
use Rattle.wasi_calls.proofs.reads.scatter_in.Given as goal

-- the buffers so far have their bytes
abbrev pub invariant-loop-iovec : goal.invariant-loop-iovec
invariant-loop-iovec l = Laying l.fn.vessel (map buffer_of l.iovecs) l.bytes l.vessel (map buffer_of (drop l.iovec-index l.iovecs)) l.rest
