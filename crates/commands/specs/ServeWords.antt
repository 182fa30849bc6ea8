-- What `serve CONFIG` asks for: a configuration and the modules of its routes are read, and then a server begins.
use Rattle.std.specs.Prelude.{ℕ, List, [], ◌∷◌, codes, Option, None, Some, if◌then◌else◌}
use Rattle.std.specs.Str.{bytes_eq}
use Rattle.outside.specs.Library.{Files}
use Rattle.commands.specs.CheckPlans.{config_plan}
use Rattle.commands.specs.Endings.{Done, Ended, Refuses, usage}
use Rattle.commands.specs.Plans.{Ends, Plan, over}
use Rattle.commands.specs.declared.status.Status.TheVariants as status

-- the name after the word `serve`
abbrev pub named_behind : (word name : List ℕ) → Option (List ℕ)
named_behind word name = if bytes_eq word (codes "serve") then Some name else None

-- the name of the configuration that the words ask to serve, or none where they have another shape
abbrev pub serve_asked : List (List ℕ) → Option (List ℕ)
serve_asked (word ∷ name ∷ []) = named_behind word name
serve_asked _ = None

-- a server that closed has nothing more to say
abbrev pub closed : Ended
closed = Done [] []

-- a thread could not be started
abbrev pub no_thread : Ended
no_thread = Refuses status.NoThread (codes "thread")

-- a listener or one of its ports failed
abbrev pub door_fault : Ended
door_fault = Refuses status.DoorFault (codes "door")

-- `serve`: the configuration, then the modules, and then nothing more is read
abbrev pub serve_plan : (name : List ℕ) → Plan
serve_plan name = config_plan name (λ c programs. Ends closed)

abbrev pub serve_plan_of : Option (List ℕ) → Plan
serve_plan_of None = Ends usage
serve_plan_of (Some name) = serve_plan name

-- the plan of these words
abbrev pub serve_plan_for : (words : List (List ℕ)) → Plan
serve_plan_for words = serve_plan_of (serve_asked words)

-- How these words end over these files, up to the server itself: it has the status `Ok` where a server begins.
abbrev pub serve_ending : (words : List (List ℕ)) → Files → Ended
serve_ending words files = over files (serve_plan_for words)
