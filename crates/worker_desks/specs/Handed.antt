-- How a shared desk remembers the duty that is out.
use Rattle.std.specs.Prelude.{Option, option_map}
use Rattle.std.specs.declared.snapshot.Snapshot.{Snapshot}
use Rattle.worker_desks.specs.declared.duties.Duty.{Duty}

abbrev pub duty_out : Option (Snapshot Duty) → Option Duty
duty_out out = option_map (λ (s : Snapshot Duty). s.value) out
