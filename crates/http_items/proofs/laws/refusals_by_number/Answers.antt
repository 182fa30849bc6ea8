use Rattle.std.proofs.Common.{◌≡◌, refl}
use Rattle.http_items.specs.declared.refusals.Refusal.{Refusal}
use Rattle.http_items.specs.declared.refusals.Refusal.TheVariants.{BadHead, BadHost, TransferCoding, BadLength, TooLarge, CutBody, BadTarget, BadMethod, NoRoute, AdmissionSpent}
use Rattle.http_items.specs.Refusals.{number_of, refusal_numbered}
use Rattle.http_items.proofs.laws.refusals_by_number.Goals as goal

named : (refusal : Refusal) → refusal_numbered (number_of refusal) ≡ refusal
named BadHead = refl
named BadHost = refl
named TransferCoding = refl
named BadLength = refl
named TooLarge = refl
named CutBody = refl
named BadTarget = refl
named BadMethod = refl
named NoRoute = refl
named AdmissionSpent = refl

pub returns : goal.returns
returns c = named
