-- A door in memory: the ports that it hands out, which of its calls fail, and what each call answers and leaves.
use Rattle.std.specs.Prelude.{◌==◌, ℕ, [], ◌∷◌, Bool, cond, List, if◌then◌else◌}
use Rattle.std.specs.List.{list_any}
use Rattle.outside_links.specs.Faults.{one_more}
use Rattle.outside_links.specs.Door.{DoorState}
use Rattle.outside_links.specs.MemPort.{Listening, unused_port}

-- a door in memory as contracts see it
pub record Doorway : Type 0 where
  -- the ports that are still to be handed out
  pub ports : List Listening
  -- the calls of `listen` that fail, and how many were made
  pub failing : List ℕ
  pub calls : ℕ
  pub ended : ℕ
  pub faults : ℕ

abbrev pub mem_door_state : Doorway → DoorState
mem_door_state d = record { ended = d.ended; faults = d.faults }

-- the next call of `listen` is one of those that fail
abbrev pub listen_fails : Doorway → Bool
listen_fails d = list_any (λ number. number == d.calls) d.failing

-- the port that is handed out next, at this number: where none is left, one without links
abbrev pub next_port : List Listening → ℕ → Listening
next_port [] number = unused_port [] [] number
next_port (port ∷ ports) number = record port { number = number }

abbrev pub later_ports : List Listening → List Listening
later_ports [] = []
later_ports (port ∷ ports) = ports

-- what a door is after a call of `listen`
abbrev pub after_listen : Doorway → Doorway
after_listen d = cond (listen_fails d)
    (record d { calls = one_more d.calls; faults = one_more d.faults })
    (record d { calls = one_more d.calls; ports = later_ports d.ports })

-- a port came back
abbrev pub after_give_back : Doorway → Listening → Doorway
after_give_back d port = record d {
  ended = if port.ended then one_more d.ended else d.ended;
  faults = if port.faults == 0 then d.faults else one_more d.faults;
}
