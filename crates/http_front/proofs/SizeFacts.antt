-- The number that digits write, once it is too large.
use Rattle.std.proofs.Common.{◌≡◌, ℕ, ◌<◌, List, Result, Ok, Err, nat_le, sym, arith}
use Rattle.std.specs.Str.Parse.{digits_value_after}
use Rattle.std.proofs.lemmas.Bool.{lt-leb}
use Rattle.http1.proofs.TextLemmas.{digits_value_after-ge}
use Rattle.http_items.specs.declared.refusals.Refusal.{Refusal}
use Rattle.http_items.specs.declared.refusals.Refusal.TheVariants.{TooLarge}
use Rattle.http_items.specs.Headings.{most_body, size_within}
use Rattle.http_items.proofs.HeadLaws.{at_false}

pub too_large : (size : ℕ) (rest : List ℕ) (all : ℕ) → digits_value_after 10 size rest ≡ all → 1048576 < size →
    (let r : Result ℕ Refusal = Err TooLarge in r) ≡ size_within all
too_large size rest all is over =
    let least = digits_value_after-ge 10 rest size (omega arith) in
    sym (at_false (nat_le all most_body) (Ok all) (Err TooLarge) (lt-leb all most_body (omega arith)))
