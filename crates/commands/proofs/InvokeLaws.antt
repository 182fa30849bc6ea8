-- How an `invoke` ends, by what its files spell.
use Rattle.std.proofs.Common.{◌≡◌, ◌≢◌, ℕ, ◌<◌, ◌≤◌, Bool, true, false, if◌then◌else◌, nat_lt, List, length, Option, None, Some, Result, Ok, Err, inl, inr, refl, sym, ap, subst, ◌∙◌}
use Rattle.outside.specs.Library.{Files}
use Rattle.wasm_ops.specs.Bytes.{AreBytes}
use Rattle.wasm_ops.specs.declared.faults.Fault.{Fault}
use Rattle.wasm_ops.specs.declared.modules.Module.{Module}
use Rattle.wasm_reader.proofs.FormedModules.{module_formed}
use Rattle.wasm_reader.specs.Modules.{RefusesModule}
use Rattle.wasm_instance.proofs.Outcomes.{linked_is}
use Rattle.wasm_meaning.proofs.SafePrograms.{verdict_is}
use Rattle.wasm_meaning.specs.LinkRules.{link_number}
use Rattle.wasm_meaning.specs.Programs.{Program, IsProgram, link}
use Rattle.wasm_meaning.specs.Requests.{Request, Verdict, verdict}
use Rattle.wasm_meaning.specs.Validity.{module_walk}
use Rattle.wasm_meaning.specs.ValidityChecks.{Check}
use Rattle.wasm_meaning.specs.declared.links.Unlinked.{Unlinked}
use Rattle.wasm_meaning.specs.declared.violations.Broken.{Broken}
use Rattle.commands.proofs.Checks.{IsNone, IsProgramOf, Judged, check_accepted, check_invalid, check_long, check_refused, check_short, check_unlinked, fits_limit, judged}
use Rattle.module_files.specs.Accepted.{IsAccepted, IsInvalid, IsUnlinked}
use Rattle.commands.specs.ModuleChecks.{given_pages}
use Rattle.commands.specs.CommandLine.{Asked, AsksInvoke, InvokeWords, command_of}
use Rattle.commands.specs.Commands.{body_limit, body_plan, check_body, check_invoked, ending, invoke_plan, plan_of, ran, request_of}
use Rattle.commands.specs.Endings.{Ended, module_fault, not_read, recording_fault, status_of}
use Rattle.commands.specs.Plans.{Ends, Goes, Step, Stops, found, go_on, over}
use Rattle.commands.specs.Promises.{AnswersInvoke, HoldsBoth}
use Rattle.commands.specs.declared.status.Status.TheVariants as status

-- these words ask for this `invoke`, so their ending is its
asks : (words : List (List ℕ)) (files : Files) (i : InvokeWords) → command_of words ≡ Some (AsksInvoke i) → ending words files ≡ over files (invoke_plan i)
asks words files i is = ap (λ (a : Option Asked). over files (plan_of a)) is

-- the ending from a module's file on
from_file : (files : Files) (i : InvokeWords) (file : Option (List ℕ)) → files i.module_name ≡ file → over files (invoke_plan i) ≡ over files (found i.module_name check_invoked (body_plan i) file)
from_file files i file m = ap (λ (f : Option (List ℕ)). over files (found i.module_name check_invoked (body_plan i) f)) m

-- the ending from the check of a module on
from_check : (files : Files) (i : InvokeWords) (file : List ℕ) (step : Step Program) → files i.module_name ≡ Some file → check_invoked file ≡ step → over files (invoke_plan i) ≡ over files (go_on (body_plan i) step)
from_check files i file step m c = from_file files i (Some file) m ∙ ap (λ s. over files (go_on (body_plan i) s)) c

-- the ending from a body's file on
from_body : (files : Files) (i : InvokeWords) (program : Program) (body : Option (List ℕ)) → files i.body_name ≡ body
    → over files (body_plan i program) ≡ over files (found i.body_name check_body (λ b. Ends (ran (request_of program i.budget b))) body)
from_body files i program body b = ap (λ (f : Option (List ℕ)). over files (found i.body_name check_body (λ b. Ends (ran (request_of program i.budget b))) f)) b

-- the ending from the check of a body on
from_body_check : (files : Files) (i : InvokeWords) (program : Program) (body : List ℕ) (step : Step (List ℕ)) → files i.body_name ≡ Some body → check_body body ≡ step
    → over files (body_plan i program) ≡ over files (go_on (λ b. Ends (ran (request_of program i.budget b))) step)
from_body_check files i program body step b c =
    from_body files i program (Some body) b ∙ ap (λ s. over files (go_on (λ b. Ends (ran (request_of program i.budget b))) s)) c

pub module_missing : (words : List (List ℕ)) (files : Files) (i : InvokeWords) → command_of words ≡ Some (AsksInvoke i) → files i.module_name ≡ None → ending words files ≡ not_read i.module_name
module_missing words files i is m = asks words files i is ∙ from_file files i None m

pub module_refused : (words : List (List ℕ)) (files : Files) (i : InvokeWords) (file : List ℕ) (fault : Fault) → command_of words ≡ Some (AsksInvoke i) → files i.module_name ≡ Some file → RefusesModule file fault
    → ending words files ≡ module_fault 0 fault.number fault.place
module_refused words files i file fault is m r = asks words files i is ∙ from_check files i file _ m (check_refused 0 given_pages file fault r)

pub module_invalid : (words : List (List ℕ)) (files : Files) (i : InvokeWords) (file : List ℕ) (broken : Broken) → command_of words ≡ Some (AsksInvoke i) → files i.module_name ≡ Some file → IsInvalid file broken
    → ending words files ≡ module_fault 0 broken.number broken.item
module_invalid words files i file broken is m n = asks words files i is ∙ from_check files i file _ m (check_invalid 0 given_pages file broken n)

pub module_unlinked : (words : List (List ℕ)) (files : Files) (i : InvokeWords) (file : List ℕ) (why : Unlinked) → command_of words ≡ Some (AsksInvoke i) → files i.module_name ≡ Some file → IsUnlinked given_pages file why
    → ending words files ≡ module_fault 0 (link_number why.rule) why.item
module_unlinked words files i file why is m n = asks words files i is ∙ from_check files i file _ m (check_unlinked 0 given_pages file why n)

accepted : (words : List (List ℕ)) (files : Files) (i : InvokeWords) (file : List ℕ) (program : Program) → command_of words ≡ Some (AsksInvoke i) → files i.module_name ≡ Some file → IsAccepted given_pages file program
    → ending words files ≡ over files (body_plan i program)
accepted words files i file program is m b = asks words files i is ∙ from_check files i file _ m (check_accepted 0 given_pages file program b)

pub body_missing : (words : List (List ℕ)) (files : Files) (i : InvokeWords) (file : List ℕ) (program : Program) → command_of words ≡ Some (AsksInvoke i) → files i.module_name ≡ Some file → IsAccepted given_pages file program
    → files i.body_name ≡ None → ending words files ≡ not_read i.body_name
body_missing words files i file program is m b none = accepted words files i file program is m b ∙ from_body files i program None none

pub body_too_long : (words : List (List ℕ)) (files : Files) (i : InvokeWords) (file body : List ℕ) (program : Program) → command_of words ≡ Some (AsksInvoke i) → HoldsBoth i files file body → IsAccepted given_pages file program
    → body_limit < length body → ending words files ≡ recording_fault 76
body_too_long words files i file body program is holds b long = accepted words files i file program is holds.0 b ∙ from_body_check files i program body _ holds.1 (check_long body long)

pub complete : (words : List (List ℕ)) (files : Files) (i : InvokeWords) (file body : List ℕ) (program : Program) → command_of words ≡ Some (AsksInvoke i) → HoldsBoth i files file body → IsAccepted given_pages file program
    → length body ≤ body_limit → AnswersInvoke i files (ending words files)
complete words files i file body program is holds b fits = record {
  file = file;
  program = program;
  body = body;
  holds_module = holds.0;
  accepted = b;
  holds_body = holds.1;
  fits = fits;
  ends = accepted words files i file program is holds.0 b ∙ from_body_check files i program body _ holds.1 (check_short body fits);
}

-- what bytes that are accepted spell is a program, so a request to it has a verdict
is_program : (pages : ℕ) (file : List ℕ) (program : Program) → AreBytes file → IsAccepted pages file program → IsProgram program
is_program pages file program bytes b =
    let is = linked_is b.parts pages program b.links in
    subst (λ (p : Program). IsProgram p) (sym is.1) (record { formed = module_formed file b.parts bytes b.spelt; valid = b.valid; links = is.0 })

pub has_verdict
    : (pages : ℕ) (file : List ℕ) (program : Program) → AreBytes file → IsAccepted pages file program → (request : Request) → request.program ≡ program
    → (v : Verdict) × (verdict request ≡ Some v)
has_verdict pages file program bytes b request same =
    verdict_is request (subst (λ (p : Program). IsProgram p) (sym same) (is_program pages file program bytes b))

-- Each `invoke` over files is one of these.

not_done : (e f : Ended) → e ≡ f → status_of f ≢ status.Ok → status_of e ≡ status.Ok → ⊥
not_done e f same other done = other (sym (ap status_of same) ∙ done)

with_body : (words : List (List ℕ)) (files : Files) (i : InvokeWords) (file : List ℕ) (program : Program) (body : Option (List ℕ)) → command_of words ≡ Some (AsksInvoke i) → files i.module_name ≡ Some file → IsAccepted given_pages file program
    → files i.body_name ≡ body → status_of (ending words files) ≡ status.Ok → AnswersInvoke i files (ending words files)
with_body words files i file program None is m b h done = absurd (not_done _ _ (body_missing words files i file program is m b h) (λ bad. cc) done)
with_body words files i file program (Some body) is m b h done = at (nat_lt body_limit (length body)) refl
  where
    at : (long : Bool) → nat_lt body_limit (length body) ≡ long → AnswersInvoke i files (ending words files)
    at true e = absurd (not_done _ _ (accepted words files i file program is m b ∙ from_body_check files i program body _ h (ap (λ t. if t then Stops (recording_fault 76) else Goes body) e)) (λ bad. cc) done)
    at false e = complete words files i file body program is (m, h) b (fits_limit body_limit (length body) e)

with_file : (words : List (List ℕ)) (files : Files) (i : InvokeWords) (file : Option (List ℕ)) → command_of words ≡ Some (AsksInvoke i) → files i.module_name ≡ file
    → status_of (ending words files) ≡ status.Ok → AnswersInvoke i files (ending words files)
with_file words files i None is m done = absurd (not_done _ _ (module_missing words files i is m) (λ bad. cc) done)
with_file words files i (Some file) is m done = at (judged 0 given_pages file)
  where
    at : Judged 0 given_pages file → AnswersInvoke i files (ending words files)
    at (IsProgramOf program accepted) = with_body words files i file program (files i.body_name) is m accepted refl done
    at (IsNone number place stops) = absurd (not_done _ _ (asks words files i is ∙ from_check files i file _ m stops) (λ bad. cc) done)

pub done_is_answered : (words : List (List ℕ)) (files : Files) (i : InvokeWords) → command_of words ≡ Some (AsksInvoke i) → status_of (ending words files) ≡ status.Ok → AnswersInvoke i files (ending words files)
done_is_answered words files i is done = with_file words files i (files i.module_name) is refl done
