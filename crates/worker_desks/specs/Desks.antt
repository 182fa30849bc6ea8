-- What every desk tells of itself, and how its calls change that.
use Rattle.std.specs.Prelude.{◌≡◌, ℕ, ◌+◌, ◌<◌, ◌≤◌, ◌^◌, Bool, true, false, Option, Some, None}
use Rattle.sandbox_states.specs.Views.{SandboxView}
use Rattle.worker_desks.specs.Duties.{begins_of, HasRoom}
use Rattle.worker_desks.specs.declared.duties.Duty.{Duty}

-- the most duties that it can still give, how many it has given, whether its last `next` gave none, what the duty that is out began with, and the quantum
pub record DeskView : Type 0 where
  pub bound : ℕ
  pub given : ℕ
  pub ended : Bool
  pub out : Option SandboxView
  pub quantum : ℕ

-- a duty is given: it is out, and the desk can give fewer now
pub record Gives (old new : DeskView) (duty : Duty) : Type 0 where
  pub bound : new.bound < old.bound
  pub given : new.given ≡ old.given + 1
  pub ended : new.ended ≡ false
  pub out : new.out ≡ Some (begins_of duty)
  pub quantum : new.quantum ≡ old.quantum
  pub room : HasRoom duty

-- no duty is given
pub record Closes (old new : DeskView) : Type 0 where
  pub bound : new.bound ≤ old.bound
  pub given : new.given ≡ old.given
  pub ended : new.ended ≡ true
  pub out : new.out ≡ None
  pub quantum : new.quantum ≡ old.quantum

-- what the duty came to was taken back
pub record Regains (old new : DeskView) : Type 0 where
  pub bound : new.bound ≤ old.bound
  pub given : new.given ≡ old.given
  pub ended : new.ended ≡ old.ended
  pub out : new.out ≡ None
  pub quantum : new.quantum ≡ old.quantum

-- a desk whose duties can be run, in turns of this quantum, and counted in 64 bits
pub record IsOpen (desk : DeskView) (quantum : ℕ) : Type 0 where
  pub some : 1 ≤ quantum
  pub quantum_is : desk.quantum ≡ quantum
  pub out : desk.out ≡ None
  pub ended : desk.ended ≡ false
  pub few : desk.given + desk.bound < 2 ^ 64

-- a desk was asked until it gave no more, and so many duties were given and taken back
pub record IsWorkedOff (old new : DeskView) (turns : ℕ) : Type 0 where
  pub ended : new.ended ≡ true
  pub given : new.given ≡ old.given + turns
  pub bound : new.bound ≤ old.bound
  pub out : new.out ≡ None
  pub quantum : new.quantum ≡ old.quantum
