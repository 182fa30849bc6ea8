-- The plan of each command: its words first, then each file read and checked in its order, then the run.
use Rattle.std.specs.Prelude.{ℕ, List, Option, None, Some}
use Rattle.outside.specs.Library.{Files}
use Rattle.wasm_meaning.specs.Programs.{Program}
use Rattle.wasm_meaning.specs.Requests.{Request, units, verdict}
use Rattle.wasm_reader.specs.Modules.{most_bytes}
use Rattle.workers.specs.Outcomes.{reported_of}
use Rattle.commands.specs.ModuleChecks.{check_module, given_pages}
use Rattle.commands.specs.CheckPlans.{check_plan}
use Rattle.commands.specs.CommandLine.{Asked, AsksHelp, AsksVersion, AsksInvoke, AsksCheck, AsksReplay, AsksSoak, InvokeWords, command_of}
use Rattle.commands.specs.Endings.{Ended, answered, recording_fault, shown, usage}
use Rattle.commands.specs.Plans.{Plan, Ends, Step, Stops, Goes, checked_file, limited, over}
use Rattle.commands.specs.ReplayPlans.{replay_plan}
use Rattle.commands.specs.SoakPlans.{soak_plan}
use Rattle.commands.specs.Texts.{help_text, version_text}

-- the module of an `invoke`, which is told as that of route 0
abbrev pub check_invoked : List ℕ → Step Program
check_invoked bytes = check_module 0 given_pages bytes

-- the most bytes of a request body: 1 MiB
abbrev pub body_limit : ℕ
body_limit = 1048576

-- a file as a request body
abbrev pub check_body : List ℕ → Step (List ℕ)
check_body bytes = limited body_limit (recording_fault 76) (λ body. Goes body) bytes

-- the program runs on the body within the budget
abbrev pub request_of : Program → (budget : ℕ) → (body : List ℕ) → Request
request_of program budget body = record { program = program; body = body; budget = budget }

-- the reply reports the verdict of the request, and the note its units
abbrev pub ran : Request → Ended
ran request = answered (reported_of (verdict request)) (units request)

-- `invoke` from its body on
abbrev pub body_plan : InvokeWords → Program → Plan
body_plan words program = checked_file words.body_name body_limit check_body (λ body. Ends (ran (request_of program words.budget body)))

-- the ending on a body that was checked
abbrev pub body_end : Program → (budget : ℕ) → Step (List ℕ) → Ended
body_end program budget (Stops e) = e
body_end program budget (Goes body) = ran (request_of program budget body)

-- `invoke`: the module, then the body, then the run
abbrev pub invoke_plan : InvokeWords → Plan
invoke_plan words = checked_file words.module_name most_bytes check_invoked (body_plan words)

-- the plan of each command
abbrev pub plan_of : Option Asked → Plan
plan_of None = Ends usage
plan_of (Some AsksHelp) = Ends (shown help_text)
plan_of (Some AsksVersion) = Ends (shown version_text)
plan_of (Some (AsksInvoke words)) = invoke_plan words
plan_of (Some (AsksCheck name)) = check_plan name
plan_of (Some (AsksReplay words)) = replay_plan words
plan_of (Some (AsksSoak words)) = soak_plan words

-- the plan of these words
abbrev pub plan_for : (words : List (List ℕ)) → Plan
plan_for words = plan_of (command_of words)

-- how these words end over these files
abbrev pub ending : (words : List (List ℕ)) → Files → Ended
ending words files = over files (plan_for words)
