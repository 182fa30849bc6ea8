use Rattle.std.proofs.Common.{length, ◌≡◌, ◌≤◌, true}
use Rattle.std.specs.Char.{is_ascii_digit}
use Rattle.std.specs.List.{list_all}
use Rattle.std.specs.Str.Parse.{digits_value, digits_value_after}
use Rattle.http_front.proofs.headings.size_in.Given as goal

abbrev pub invariant-loop-rest : goal.invariant-loop-rest
invariant-loop-rest l = record {
  value : digits_value_after 10 l.size l.rest ≡ digits_value 10 l.fn.digits;
  digits : list_all is_ascii_digit l.rest ≡ true;
  small : l.size ≤ 10485769;
}

abbrev pub decreases-loop-rest : goal.decreases-loop-rest
decreases-loop-rest l = length l.rest
