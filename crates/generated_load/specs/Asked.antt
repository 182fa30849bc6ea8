-- What the requests of the load ask for, and where each is complete.
use Rattle.std.specs.Prelude.{ℕ, ◌/◌, ◌%◌, true}
use Rattle.http_items.specs.declared.methods.Method.TheVariants.{Post}
use Rattle.http_items.specs.Items.{Heard, Asked}
use Rattle.recorded_arrivals.specs.Arrivals.{Arrived, arrived_at}
use Rattle.generated_load.specs.Generator.{drawn}
use Rattle.generated_load.specs.Requests.{path_at, body_of}

-- a POST of the body to the path, on a connection that is kept
abbrev pub asked_by : (drawn : ℕ) → Heard
asked_by drawn = Asked Post (path_at (drawn % 4)) true (body_of drawn)

-- what the request of this place asks for, on its connection and with the piece that brings it
abbrev pub arrived_of : (start links place : ℕ) → Arrived
arrived_of start links place = arrived_at (place % links) (place / 8) (asked_by (drawn start place))
