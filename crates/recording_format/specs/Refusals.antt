-- The numbers of the refusals of a recording, as users see them.
use Rattle.std.specs.Prelude.{ℕ}
use Rattle.recording_format.specs.declared.refusals.Refusal.{Refusal}
use Rattle.recording_format.specs.declared.refusals.Refusal.TheVariants.{BadMagic, CutShort, UnknownKind, MomentFell, LinkOrder, UnknownTenant, TooLarge, RestAfterEnd}

abbrev pub number_of : Refusal → ℕ
number_of BadMagic = 70
number_of CutShort = 71
number_of UnknownKind = 72
number_of MomentFell = 73
number_of LinkOrder = 74
number_of UnknownTenant = 75
number_of TooLarge = 76
number_of RestAfterEnd = 78
