-- How a command comes to a read fault.
use Rattle.std.proofs.Common.{◌≡◌, ℕ, List, Option, None, Some, sym, ap, ◌∙◌}
use Rattle.outside.specs.Library.{Files, LibraryState}
use Rattle.commands.proofs.Checks.{plan_steady}
use Rattle.commands.proofs.Walking.{Giving, Lawful, walk_unread}
use Rattle.commands.specs.CommandLine.{Asked, command_of}
use Rattle.commands.specs.Commands.{plan_for, plan_of}
use Rattle.commands.specs.Endings.{Ended, status_of}
use Rattle.commands.specs.Plans.{IsUnread, Walks}
use Rattle.commands.specs.declared.status.Status.{Status}
use Rattle.commands.specs.declared.status.Status.TheVariants as status

of_asked : {L : Type 0} (state : L → LibraryState) (gave : Giving L) → Lawful state gave → (asked : Option Asked) (files : Files) (old new : L) (e : Ended)
    → (state old).held ≡ Some files → Walks gave (plan_of asked) old new e → status_of e ≡ status.ReadFault → IsUnread state gave files new e
of_asked state gave tells None files old new e holds walk is = let same = ap status_of walk.0 in cc
of_asked state gave tells (Some asked) files old new e holds walk is =
    walk_unread state gave tells files (plan_of (Some asked)) old new e (plan_steady asked) holds walk is

pub read_fault_told : {L : Type 0} (state : L → LibraryState) (gave : Giving L) → Lawful state gave → (words : List (List ℕ)) (files : Files) (old new : L) (e : Ended)
    → (state old).held ≡ Some files → Walks gave (plan_for words) old new e → status_of e ≡ status.ReadFault → IsUnread state gave files new e
read_fault_told state gave tells words = of_asked state gave tells (command_of words)
