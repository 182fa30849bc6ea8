-- Where ports come from and go back to, as contracts see it.
use Rattle.std.specs.Prelude.{ℕ, ◌==◌, if◌then◌else◌}
use Rattle.outside_links.specs.Faults.{one_more}
use Rattle.outside_links.specs.Port.{PortState}

pub record DoorState : Type 0 where
  -- how many ports came back ended
  pub ended : ℕ
  -- how many calls have failed, and how many ports came back with faults of their own
  pub faults : ℕ

-- a call failed, and was counted
abbrev pub after_refusal : DoorState → DoorState
after_refusal door = record door { faults = one_more door.faults }

-- a port came back: its end is counted, and that it had faults
abbrev pub after_return : DoorState → PortState → DoorState
after_return door port = record {
  ended = if port.ended then one_more door.ended else door.ended;
  faults = if port.faults == 0 then door.faults else one_more door.faults;
}
