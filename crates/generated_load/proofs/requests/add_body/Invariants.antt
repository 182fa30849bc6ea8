-- The bytes before this one stand behind what was there.
use Rattle.std.proofs.Common.{◌≡◌, ◌++◌}
use Rattle.std.specs.Prelude.{map}
use Rattle.std.specs.List.{range_with_len}
use Rattle.generated_load.specs.Requests.{body_byte}
use Rattle.generated_load.proofs.requests.add_body.Given as goal

abbrev pub invariant-loop-place : goal.invariant-loop-place
invariant-loop-place l = l.bytes.items ≡ l.initial.bytes.items ++ map (body_byte l.drawn) (range_with_len 0 l.place)
