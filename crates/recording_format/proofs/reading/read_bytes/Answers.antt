use Rattle.std.proofs.Common.{refl, arith, inl, inr}
use Rattle.recording_format.specs.declared.refusals.Refusal.TheVariants.{TooLarge, BadMagic}
use Rattle.recording_format.specs.Recorded.{IsRefused}
use Rattle.recording_format.proofs.Responses.{is_for}
use Rattle.recording_format.proofs.reading.read_bytes.Goals as goal

pub returns-then-bytes-gt-MOST_BYTES-clause-refused :
    goal.returns-then-bytes-gt-MOST_BYTES-clause-refused
returns-then-bytes-gt-MOST_BYTES-clause-refused c =
    is_for TooLarge c.into.result (IsRefused c.args.tenants c.args.bytes.now) c.into.ensures (inl (omega (arith, c.if-bytes-gt-MOST_BYTES.true), refl))

pub returns-in_default-clause-refused : goal.returns-in_default-clause-refused
returns-in_default-clause-refused c =
    is_for BadMagic c.into-in_default.result (IsRefused c.args.tenants c.args.bytes.now) c.into-in_default.ensures
    (inr (inl (omega (arith, c.if-bytes-gt-MOST_BYTES.false), (c.in_default.ensures, refl))))
