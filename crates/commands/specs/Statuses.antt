-- The exit status of the process for each way in which a command ends.
use Rattle.std.specs.Prelude.{ℕ}
use Rattle.commands.specs.declared.status.Status.{Status}
use Rattle.commands.specs.declared.status.Status.TheVariants as status

abbrev pub exit_code : Status → ℕ
exit_code status.Ok = 0
exit_code status.Usage = 2
exit_code status.ReadFault = 3
exit_code (status.ConfigFault _) = 4
exit_code (status.ModuleFault _ _ _) = 5
exit_code (status.RecordingFault _) = 6
exit_code status.WriteFault = 7
exit_code status.NoMemory = 8
exit_code status.NoThread = 9
exit_code status.DoorFault = 10
