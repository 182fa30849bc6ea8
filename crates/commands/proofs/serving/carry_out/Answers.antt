-- The note is written, or a part of it.
use Rattle.std.proofs.Common.{inl, inr, refl}
use Rattle.commands.specs.Endings.{out_of_memory}
use Rattle.commands.proofs.serving.carry_out.Goals as goal

pub returns-in-Ok-write_pieces-2-clause-ended : goal.returns-in-Ok-write_pieces-2-clause-ended
returns-in-Ok-write_pieces-2-clause-ended g c =
    (out_of_memory, inr refl, inl (refl, c.in-Ok-write_pieces-2.ensures.all))

pub returns-clause-ended : goal.returns-clause-ended
returns-clause-ended g c =
    (out_of_memory, inr refl, inr (refl, c.in-Err-write_pieces-2.ensures.some, c.in-Err-write_pieces-2.ensures.cause))
