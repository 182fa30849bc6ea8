-- What the checks of a module's file and of a body's file make of them, said by what bytes spell; and that the first bytes of a file do for it.
use Rattle.std.proofs.Common.{◌≡◌, ℕ, suc, ◌+◌, ◌<◌, ◌≤◌, Bool, true, false, cond, nat_lt, min, List, [], ◌∷◌, ◌++◌, append-nil, length, take, drop, if◌then◌else◌, Option, Some, Result, Ok, Err, inl, inr, refl, sym, ap, ◌∙◌, arith}
use Rattle.std.specs.Str.{bytes_eq}
use Rattle.std.proofs.lemmas.Bool.Decides.{nat_tests}
use Rattle.std.proofs.lemmas.List.{length-take, take-append-drop}
use Rattle.std.proofs.Math.ListN.{drop_of_length-le}
use Rattle.wasm_ops.specs.declared.faults.Fault.{Fault}
use Rattle.wasm_ops.specs.declared.modules.Module.{Module}
use Rattle.wasm_reader.proofs.ModuleLaws.{either}
use Rattle.wasm_reader.specs.Modules.{RefusesModule, SpellsModule, most_bytes}
use Rattle.wasm_instance.proofs.Outcomes.{unlinked_is}
use Rattle.wasm_meaning.specs.Validity.{module_walk}
use Rattle.wasm_meaning.specs.LinkRules.{link_number}
use Rattle.wasm_meaning.specs.Programs.{Program, link, linked_or}
use Rattle.wasm_meaning.specs.ValidityChecks.{Check}
use Rattle.wasm_meaning.specs.declared.links.Unlinked.{Unlinked}
use Rattle.wasm_meaning.specs.declared.violations.Broken.{Broken}
use Rattle.module_files.proofs.Programs.{made_of_refused, made_of_spelt, program_front}
use Rattle.serve_config.specs.Configuration.{Configuration}
use Rattle.module_files.specs.FilePrograms.{Unfit, linked, program_of, validated}
use Rattle.serve_config.specs.Reading.{configuration, json_of}
use Rattle.serve_config.specs.Routing.{all_routes}
use Rattle.serve_config.specs.Steps.{go_on as go_on_config}
use Rattle.serve_config.specs.Walk.{config_of}
use Rattle.serve_config.specs.declared.refusals.Refusal.{Refusal}
use Rattle.serve_config.specs.declared.refusals.Refusal.TheVariants.{OutOfRange}
use Rattle.serve_config.specs.declared.tenants.Route.{Route}
use Rattle.commands.proofs.Walking.{IsSteady}
use Rattle.module_files.specs.Accepted.{IsAccepted, IsInvalid, IsUnlinked}
use Rattle.commands.specs.ModuleChecks.{check_module, given_pages, module_step}
use Rattle.commands.specs.CheckPlans.{Onward, check_config, check_route, config_limit, config_plan, config_step, counted, module_name, modules_plan, routes_plan}
use Rattle.commands.specs.CommandLine.{Asked, AsksHelp, AsksVersion, AsksInvoke, AsksCheck, AsksReplay, InvokeWords, AsksSoak, SoakWords}
use Rattle.commands.specs.Commands.{body_limit, body_plan, check_body, check_invoked, plan_of}
use Rattle.commands.specs.Endings.{Ended, module_fault, recording_fault}
use Rattle.recording_format.specs.Spelling.{magic}
use Rattle.recording_format.specs.Standing.{beginning as recording_beginning}
use Rattle.recording_format.specs.declared.records.Record.{Record}
use Rattle.recording_format.specs.declared.refusals.Refusal.{Refusal as RecordingRefusal}
use Rattle.recording_format.specs.declared.refusals.Refusal.TheVariants.{BadMagic, TooLarge}
use Rattle.recorded_arrivals.specs.Limits.{has_too_many}
use Rattle.commands.specs.Recordings.{recording_of, records_ahead}
use Rattle.commands.specs.ReplayPlans.{check_recording, recording_limit, recording_plan, recording_step, replayed, unless_too_many}
use Rattle.commands.specs.SoakPlans.{soak_end, soak_loaded, soak_plan, summed_unless}
use Rattle.generated_load.specs.Configuration.{soak_configuration}
use Rattle.generated_load.specs.Recording.{soak_records}
use Rattle.commands.specs.Plans.{Ends, Goes, Plan, Step, Stops, checked_file, go_on, limited}

-- Lengths and fronts.

pub is_long : (most n : ℕ) → most < n → nat_lt most n ≡ true
is_long most n h = grind (arith, nat_tests)

pub is_short : (most n : ℕ) → n ≤ most → nat_lt most n ≡ false
is_short most n h = grind (arith, nat_tests)

pub fits_limit : (most n : ℕ) → nat_lt most n ≡ false → n ≤ most
fits_limit most n e = grind (arith, nat_tests)

lt_min : (n l : ℕ) → nat_lt n (min (n + 1) l) ≡ nat_lt n l
lt_min n l = grind (arith, nat_tests)

take_whole : (n : ℕ) (xs : List ℕ) → length xs ≤ n → take n xs ≡ xs
take_whole n xs h = sym (append-nil (take n xs)) ∙ ap (λ (ys : List ℕ). take n xs ++ ys) (sym (drop_of_length-le xs h)) ∙ take-append-drop n xs

-- a limited check sees of a file no more than one byte above the limit
pub limited_front : {A : Type 0} (most : ℕ) (too_long : Ended) (check : List ℕ → Step A) (whole : List ℕ)
    → limited most too_long check (take (most + 1) whole) ≡ limited most too_long check whole
limited_front {A} most too_long check whole = at (nat_lt most (length whole)) refl
  where
    same_test : nat_lt most (length (take (most + 1) whole)) ≡ nat_lt most (length whole)
    same_test = ap (nat_lt most) (length-take (most + 1) whole) ∙ lt_min most (length whole)

    at : (b : Bool) → nat_lt most (length whole) ≡ b → limited most too_long check (take (most + 1) whole) ≡ limited most too_long check whole
    at true e =
        ap (λ b. cond b (Stops too_long) (check (take (most + 1) whole))) (same_test ∙ e) ∙ ap (λ b. cond b (Stops too_long) (check whole)) (sym e)
    at false e =
        let fits = fits_limit most (length whole) e in
        let long : length whole ≤ most + 1 = omega arith in
        ap (limited most too_long check) (take_whole (most + 1) whole long)

abbrev configuration_go : List ℕ → Result Configuration Refusal
configuration_go bytes = go_on_config (json_of bytes) config_of

-- a configuration's reader sees of a file no more than that too
limited_config : (whole : List ℕ) (b : Bool) → nat_lt config_limit (length whole) ≡ b → configuration (take (config_limit + 1) whole) ≡ configuration whole
limited_config whole true e =
    ap (λ b. cond b (Err OutOfRange) (configuration_go (take (config_limit + 1) whole))) (ap (nat_lt config_limit) (length-take (config_limit + 1) whole) ∙ lt_min config_limit (length whole) ∙ e)
    ∙ ap (λ b. cond b (Err OutOfRange) (configuration_go whole)) (sym e)
limited_config whole false e =
    let fits = fits_limit config_limit (length whole) e in
    let long : length whole ≤ config_limit + 1 = omega arith in
    ap configuration (take_whole (config_limit + 1) whole long)

-- The check of a module.

-- bytes that spell a module come to what its rules and then its links say
check_spelt : (route pages : ℕ) (bytes : List ℕ) (parts : Module) → SpellsModule bytes parts → check_module route pages bytes ≡ module_step route (validated pages parts (module_walk parts))
check_spelt route pages bytes parts s = ap (module_step route) (made_of_spelt pages bytes parts s)

-- bytes that are refused are refused so
pub check_refused : (route pages : ℕ) (bytes : List ℕ) (fault : Fault) → RefusesModule bytes fault → check_module route pages bytes ≡ Stops (module_fault route fault.number fault.place)
check_refused route pages bytes fault refuses = ap (module_step route) (made_of_refused pages bytes fault refuses)

pub check_accepted : (route pages : ℕ) (bytes : List ℕ) (program : Program) → IsAccepted pages bytes program → check_module route pages bytes ≡ Goes program
check_accepted route pages bytes program b =
    check_spelt route pages bytes b.parts b.spelt ∙ ap (λ (c : Check). module_step route (validated pages b.parts c)) b.valid
    ∙ ap (λ (r : Result Program Unlinked). module_step route (linked r)) b.links

pub check_invalid : (route pages : ℕ) (bytes : List ℕ) (broken : Broken) → IsInvalid bytes broken → check_module route pages bytes ≡ Stops (module_fault route broken.number broken.item)
check_invalid route pages bytes broken n = check_spelt route pages bytes n.parts n.spelt ∙ ap (λ (c : Check). module_step route (validated pages n.parts c)) n.broken_first

pub check_unlinked : (route pages : ℕ) (bytes : List ℕ) (why : Unlinked) → IsUnlinked pages bytes why → check_module route pages bytes ≡ Stops (module_fault route (link_number why.rule) why.item)
check_unlinked route pages bytes why n =
    check_spelt route pages bytes n.parts n.spelt ∙ ap (λ (c : Check). module_step route (validated pages n.parts c)) n.valid
    ∙ ap (λ (o : Option Unlinked). module_step route (linked (linked_or (record { linked = n.parts; pages = pages }) o))) n.refused_first

-- each file is the program of a route, or is refused as its module
pub data Judged (route pages : ℕ) (bytes : List ℕ) : Type 0 where
  IsProgramOf : (program : Program) (accepted : IsAccepted pages bytes program) → Judged route pages bytes
  IsNone : (number place : ℕ) (stops : check_module route pages bytes ≡ Stops (module_fault route number place)) → Judged route pages bytes

pub judged : (route pages : ℕ) (bytes : List ℕ) → Judged route pages bytes
judged route pages bytes = elim (either bytes) [
  | inl spelt ↦ by_rules spelt.0 spelt.1 (module_walk spelt.0) refl
  | inr refused ↦ IsNone refused.0.number refused.0.place (check_refused route pages bytes refused.0 refused.1)
]
  where
    by_links : (parts : Module) → SpellsModule bytes parts → module_walk parts ≡ Ok tt → (found : Result Program Unlinked) → link parts pages ≡ found → Judged route pages bytes
    by_links parts s v (Ok program) l = IsProgramOf program (record { parts = parts; spelt = s; valid = v; links = l })
    by_links parts s v (Err why) l =
        IsNone (link_number why.rule) why.item
        (check_unlinked route pages bytes why (record { parts = parts; spelt = s; valid = v; refused_first = unlinked_is parts pages why l }))

    by_rules : (parts : Module) → SpellsModule bytes parts → (check : Check) → module_walk parts ≡ check → Judged route pages bytes
    by_rules parts s (Ok passed) v = by_links parts s v (link parts pages) refl
    by_rules parts s (Err broken) v = IsNone broken.number broken.item (check_invalid route pages bytes broken (record { parts = parts; spelt = s; broken_first = v }))

module_front : (route pages : ℕ) (whole : List ℕ) → check_module route pages (take (most_bytes + 1) whole) ≡ check_module route pages whole
module_front route pages whole = ap (module_step route) (program_front pages whole)

-- The check of a body.

pub check_long : (body : List ℕ) → body_limit < length body → check_body body ≡ Stops (recording_fault 76)
check_long body h = ap (λ b. cond b (Stops (recording_fault 76)) (Goes body)) (is_long body_limit (length body) h)

pub check_short : (body : List ℕ) → length body ≤ body_limit → check_body body ≡ Goes body
check_short body h = ap (λ b. cond b (Stops (recording_fault 76)) (Goes body)) (is_short body_limit (length body) h)

-- Every plan is steady.

-- a check refuses with a status of files
abbrev StopsWell : {A : Type 0} → Step A → Type 0
StopsWell (Stops e) = IsSteady (Ends e)
StopsWell (Goes value) = Unit {0}

go_on_steady : {A : Type 0} (next : A → Plan) (step : Step A) → ((value : A) → IsSteady (next value)) → StopsWell step → IsSteady (go_on next step)
go_on_steady next (Stops e) steady well = well
go_on_steady next (Goes value) steady well = steady value

pub checked_file_steady : {A : Type 0} (name : List ℕ) (most : ℕ) (check : List ℕ → Step A) (next : A → Plan)
    → ((whole : List ℕ) → check (take (most + 1) whole) ≡ check whole) → ((bytes : List ℕ) → StopsWell (check bytes)) → ((value : A) → IsSteady (next value))
    → IsSteady (checked_file name most check next)
checked_file_steady name most check next front well steady =
    (refl, λ whole. ap (go_on next) (front whole), λ bytes. go_on_steady next (check bytes) steady (well bytes))

limited_well : {A : Type 0} (b : Bool) (too_long : Ended) (step : Step A) → IsSteady (Ends too_long) → StopsWell step → StopsWell (cond b (Stops too_long) step)
limited_well true too_long step long well = long
limited_well false too_long step long well = well

module_well : (route pages : ℕ) (bytes : List ℕ) → StopsWell (check_module route pages bytes)
module_well route pages bytes = at (program_of pages bytes)
  where
    at : (made : Result Program Unfit) → StopsWell (module_step route made)
    at (Ok program) = tt
    at (Err why) = tt

-- a configuration and its modules

config_front : (whole : List ℕ) → check_config (take (config_limit + 1) whole) ≡ check_config whole
unfolding check_config
config_front whole = ap config_step (limited_config whole (nat_lt config_limit (length whole)) refl)

-- what a configuration's bytes are read as is what is made of them
pub config_checked : (bytes : List ℕ) (read : Result Configuration Refusal) → configuration bytes ≡ read → check_config bytes ≡ config_step read
unfolding check_config
config_checked bytes read is = ap config_step is

config_well : (bytes : List ℕ) → StopsWell (check_config bytes)
unfolding check_config
config_well bytes = at (configuration bytes)
  where
    at : (read : Result Configuration Refusal) → StopsWell (config_step read)
    at (Ok c) = tt
    at (Err refusal) = tt

modules_steady : (number : ℕ) (routes : List Route) (next : List Program → Plan) → ((programs : List Program) → IsSteady (next programs)) → IsSteady (modules_plan number routes next)
modules_steady number [] next steady = steady []
modules_steady number (r ∷ routes) next steady =
    checked_file_steady (module_name r) most_bytes (check_route number r) _
    (module_front number r.pages)
    (module_well number r.pages)
    (λ program. modules_steady (suc number) routes (λ programs. next (program ∷ programs)) (λ programs. steady (program ∷ programs)))

pub config_plan_steady : (name : List ℕ) (next : Onward) → ((c : Configuration) (programs : List Program) → IsSteady (next c programs)) → IsSteady (config_plan name next)
config_plan_steady name next steady =
    checked_file_steady name config_limit check_config (routes_plan next) config_front config_well
    (λ c. modules_steady 0 (all_routes c.tenants) (next c) (steady c))

-- a recording

-- what a recording's bytes are is what is made of them
pub recording_checked : (tenants : ℕ) (bytes : List ℕ) (read : Result (List Record) RecordingRefusal) → recording_of tenants bytes ≡ read → check_recording tenants bytes ≡ recording_step read
unfolding check_recording
recording_checked tenants bytes read is = ap recording_step is

abbrev small_recording : (tenants : ℕ) → List ℕ → Result (List Record) RecordingRefusal
small_recording tenants bytes = if bytes_eq (take 4 bytes) magic then records_ahead (suc (length bytes)) tenants recording_beginning (drop 4 bytes) else Err BadMagic

limited_recording : (tenants : ℕ) (whole : List ℕ) (b : Bool) → nat_lt recording_limit (length whole) ≡ b → recording_of tenants (take (recording_limit + 1) whole) ≡ recording_of tenants whole
unfolding recording_of
limited_recording tenants whole true e =
    ap (λ b. cond b (Err TooLarge) (small_recording tenants (take (recording_limit + 1) whole))) (ap (nat_lt recording_limit) (length-take (recording_limit + 1) whole) ∙ lt_min recording_limit (length whole) ∙ e)
    ∙ ap (λ b. cond b (Err TooLarge) (small_recording tenants whole)) (sym e)
limited_recording tenants whole false e =
    let fits = fits_limit recording_limit (length whole) e in
    let long : length whole ≤ recording_limit + 1 = omega arith in
    ap (recording_of tenants) (take_whole (recording_limit + 1) whole long)

recording_front : (tenants : ℕ) (whole : List ℕ) → check_recording tenants (take (recording_limit + 1) whole) ≡ check_recording tenants whole
unfolding check_recording
recording_front tenants whole = ap recording_step (limited_recording tenants whole (nat_lt recording_limit (length whole)) refl)

recording_well : (tenants : ℕ) (bytes : List ℕ) → StopsWell (check_recording tenants bytes)
unfolding check_recording
recording_well tenants bytes = at (recording_of tenants bytes)
  where
    at : (read : Result (List Record) RecordingRefusal) → StopsWell (recording_step read)
    at (Ok records) = tt
    at (Err refusal) = tt

replayed_steady : (config : Configuration) (programs : List Program) (records : List Record) (many : Bool) → IsSteady (Ends (unless_too_many many config programs records))
replayed_steady config programs records true = tt
replayed_steady config programs records false = tt

recording_steady : (name : List ℕ) (config : Configuration) (programs : List Program) → IsSteady (recording_plan name config programs)
recording_steady name config programs =
    checked_file_steady name recording_limit (check_recording (length config.tenants)) _ (recording_front (length config.tenants)) (recording_well (length config.tenants))
    (λ records. replayed_steady config programs records (has_too_many records))

-- an `invoke`

body_plan_steady : (words : InvokeWords) (program : Program) → IsSteady (body_plan words program)
body_plan_steady words program =
    checked_file_steady words.body_name body_limit check_body _
    (limited_front body_limit (recording_fault 76) (λ body. Goes body))
    (λ bytes. limited_well (nat_lt body_limit (length bytes)) (recording_fault 76) (Goes bytes) tt tt)
    (λ body. tt)

-- a `soak`, which reads nothing

summed_steady : (config : Configuration) (programs : List Program) (records : List Record) (many : Bool) → IsSteady (Ends (summed_unless many config programs records))
summed_steady config programs records true = tt
summed_steady config programs records false = tt

soak_steady : (words : SoakWords) → IsSteady (soak_plan words)
unfolding soak_end
soak_steady words =
    summed_steady soak_configuration soak_loaded (soak_records words.start words.count) (has_too_many (soak_records words.start words.count))

pub plan_steady : (asked : Asked) → IsSteady (plan_of (Some asked))
plan_steady AsksHelp = tt
plan_steady AsksVersion = tt
plan_steady (AsksInvoke words) =
    checked_file_steady words.module_name most_bytes check_invoked (body_plan words) (module_front 0 given_pages) (module_well 0 given_pages) (body_plan_steady words)
plan_steady (AsksCheck name) = config_plan_steady name (λ c programs. Ends (counted c)) (λ c programs. tt)
plan_steady (AsksReplay words) = config_plan_steady words.config_name (recording_plan words.recording_name) (recording_steady words.recording_name)
plan_steady (AsksSoak words) = soak_steady words
