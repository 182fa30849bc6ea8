-- What one turn of a duty comes to.
use Rattle.std.specs.Prelude.{ℕ}
use Rattle.sandbox_states.specs.Stands.{IsOneTurn}
use Rattle.sandbox_states.specs.Views.{SandboxView}
use Rattle.worker_desks.specs.Duties.{IsDelivered}
use Rattle.worker_desks.specs.declared.working.Served.{Served}
use Rattle.worker_desks.specs.declared.working.Served.TheVariants.{Stopped, Answered}

abbrev pub IsServed : (quantum : ℕ) → (old : SandboxView) → Served → Type 0
IsServed quantum old (Stopped sandbox) = IsOneTurn quantum old sandbox
IsServed quantum old (Answered answer berth) = IsDelivered quantum old answer berth
