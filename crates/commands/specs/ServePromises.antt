-- What each status of `serve_words` says.
use Rattle.std.specs.Prelude.{◌≡◌, ◌≢◌, ◌⊎◌, ℕ, ◌*◌, List, length, Option, Some}
use Rattle.outside.specs.Faults.{Rose}
use Rattle.outside.specs.Library.{Fetched, Files, LibraryState}
use Rattle.outside.specs.Sink.{Appends, SinkState, TakesPrefix}
use Rattle.outside_links.specs.Door.{DoorState}
use Rattle.wasm_meaning.specs.Programs.{Program}
use Rattle.serve_config.specs.Configuration.{Configuration}
use Rattle.serve_sessions.specs.Causes.{RoseBy}
use Rattle.serve_sessions.specs.declared.serving.Served.{Served}
use Rattle.serve_sessions.specs.declared.serving.Served.TheVariants as serving
use Rattle.commands.specs.CheckPlans.{Onward, config_plan}
use Rattle.commands.specs.Endings.{Due, Ended, due, note_of, out_of_memory, status_of}
use Rattle.commands.specs.Plans.{Leads, Walks}
use Rattle.commands.specs.Promises.{HoldsConfig}
use Rattle.commands.specs.ServeWords.{closed, door_fault, no_thread, serve_asked, serve_plan_of}
use Rattle.commands.specs.declared.status.Status.{Status}
use Rattle.commands.specs.declared.status.Status.TheVariants as status

-- The words ask for a server, and the reads were made that it wants: what they gave are this configuration and these programs. So whatever a
-- command begins with these reads, it goes on with them.
pub record IsConfigured {L : Type 0} (gave : L → L → List ℕ → ℕ → Fetched → Type 0) (asked : Option (List ℕ)) (old new : L) (c : Configuration) : Type 0 where
  pub name : List ℕ
  pub is_asked : asked ≡ Some name
  pub programs : List Program
  pub reads : (next : Onward) → Leads gave (config_plan name next) (next c programs) old new

-- as many ports came back to the door ended as there are clerks for all tenants of this configuration
abbrev pub AllEnded : Configuration → (door door' : DoorState) → Type 0
AllEnded c door door' = RoseBy door.ended door'.ended (c.clerks * length c.tenants)

-- how a server of this configuration ended: all of its ports did, or the spawner or the door counted a fault
abbrev pub ServedAs : Configuration → (threads threads' : ℕ) (door door' : DoorState) → Ended → Type 0
ServedAs c threads threads' door door' e =
    ((e ≡ closed) × AllEnded c door door')
    ⊎ ((e ≡ no_thread) × Rose threads threads')
    ⊎ ((e ≡ door_fault) × Rose door.faults door'.faults)

-- the statuses of a refusal by the words, the configuration or the modules
abbrev pub IsRefusal : Status → Type 0
IsRefusal status.Usage = Unit {0}
IsRefusal status.ReadFault = Unit {0}
IsRefusal (status.ConfigFault number) = Unit {0}
IsRefusal (status.ModuleFault route number place) = Unit {0}
IsRefusal (status.RecordingFault number) = ⊥
IsRefusal status.Ok = ⊥
IsRefusal status.WriteFault = ⊥
IsRefusal status.NoMemory = ⊥
IsRefusal status.NoThread = ⊥
IsRefusal status.DoorFault = ⊥

-- the reads came to a refusal before a server began
pub record IsRefused {L : Type 0} (gave : L → L → List ℕ → ℕ → Fetched → Type 0) (asked : Option (List ℕ)) (old new : L) (e : Ended) : Type 0 where
  pub walk : Walks gave (serve_plan_of asked) old new e
  pub refusal : IsRefusal (status_of e)

-- the command came to this ending: by its reads, or by the server that began behind them
abbrev pub EndsServing
    : {L : Type 0} (gave : L → L → List ℕ → ℕ → Fetched → Type 0) (asked : Option (List ℕ)) (old new : L) (threads threads' : ℕ) (door door' : DoorState) → Ended → Type 0
EndsServing gave asked old new threads threads' door door' e =
    IsRefused gave asked old new e
    ⊎ ((c : Configuration) × IsConfigured gave asked old new c × ServedAs c threads threads' door door' e)

-- what is due is the ending's
pub record Serves {L : Type 0} (gave : L → L → List ℕ → ℕ → Fetched → Type 0) (asked : Option (List ℕ)) (old new : L) (threads threads' : ℕ) (door door' : DoorState) (planned : Due) : Type 0 where
  pub ending : Ended
  pub ends : EndsServing gave asked old new threads threads' door door' ending
  pub is_due : planned ≡ due ending

-- the ending that a server's own answer is told as
abbrev pub served_end : Served → Ended
served_end serving.Closed = closed
served_end serving.NoThread = no_thread
served_end serving.DoorFault = door_fault
served_end serving.NoMemory = out_of_memory

-- the notes took just what this ending has for them, and the status is its; or a call failed and was counted, and they took the front of it
abbrev pub Noted : (e : Ended) (result : Status) (notes notes' : SinkState) → Type 0
Noted e result notes notes' =
    ((result ≡ status_of e) × Appends notes notes' (note_of e))
    ⊎ ((result ≡ status.WriteFault) × TakesPrefix notes notes' (note_of e) × Rose notes.faults notes'.faults)

-- a server began, and this is how it ended
abbrev pub HasBegun : Status → Type 0
HasBegun result = (result ≡ status.Ok) ⊎ (result ≡ status.NoThread) ⊎ (result ≡ status.DoorFault)

-- the status is the one that the files come to, and where that is `Ok` a server's; unless there was no memory, or a write or a read failed and was counted
abbrev pub ServeYields : (planned result : Status) (lib lib' : LibraryState) (notes notes' : SinkState) → Type 0
ServeYields planned result lib lib' notes notes' =
    ((planned ≡ status.Ok) × HasBegun result)
    ⊎ ((planned ≢ status.Ok) × (result ≡ planned))
    ⊎ (result ≡ status.NoMemory)
    ⊎ ((result ≡ status.WriteFault) × Rose notes.faults notes'.faults)
    ⊎ ((result ≡ status.ReadFault) × Rose lib.faults lib'.faults)

-- these words ask to serve the configuration in this file, and so many ports came back ended
pub record AllServed (asked : Option (List ℕ)) (files : Files) (door door' : DoorState) : Type 0 where
  pub name : List ℕ
  pub is_asked : asked ≡ Some name
  pub config : Configuration
  pub held : HoldsConfig name files config
  pub ended : AllEnded config door door'

-- none of the counts of faults rose: of the library, the notes, the threads and the door
pub record NoneRose (lib lib' : LibraryState) (notes notes' : SinkState) (threads threads' : ℕ) (door door' : DoorState) : Type 0 where
  pub lib_kept : Rose lib.faults lib'.faults → ⊥
  pub notes_kept : Rose notes.faults notes'.faults → ⊥
  pub threads_kept : Rose threads threads' → ⊥
  pub door_kept : Rose door.faults door'.faults → ⊥
