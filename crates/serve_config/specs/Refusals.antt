-- The numbers of the refusals of a configuration, as users see them.
use Rattle.std.specs.Prelude.{ℕ}
use Rattle.serve_config.specs.declared.refusals.Refusal.{Refusal}
use Rattle.serve_config.specs.declared.refusals.Refusal.TheVariants.{NotJson, UnknownKey, MissingKey, WrongKind, OutOfRange, DoubleName, DoubleRoute, BadRoute, RegionTooLarge, BadContentType}

abbrev pub number_of : Refusal → ℕ
number_of NotJson = 60
number_of UnknownKey = 61
number_of MissingKey = 62
number_of WrongKind = 63
number_of OutOfRange = 64
number_of DoubleName = 65
number_of DoubleRoute = 66
number_of BadRoute = 67
number_of RegionTooLarge = 68
number_of BadContentType = 69
