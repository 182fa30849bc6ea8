-- The read of a recording, and its replay, are those of the plan.
use Rattle.std.proofs.Common.{◌≡◌, ℕ, ◌^◌, ◌<◌, Bool, false, List, [], ◌∷◌, length, Option, None, Some, Ok, Err, inl, inr, sym, ap, subst, ◌∙◌, arith}
use Rattle.std.specs.List.{AllByRecursion}
use Rattle.std.specs.Prelude.{IfSome}
use Rattle.outside.specs.Library.{Files, Gives, LibraryState}
use Rattle.outside.specs.Sink.{SinkState}
use Rattle.wasm_meaning.specs.Programs.{Program}
use Rattle.serve_config.specs.Configuration.{Configuration}
use Rattle.recording_format.specs.Faults.{IsFor}
use Rattle.recording_format.specs.Recorded.{EventFits, Fits, IsRefused, Recorded}
use Rattle.recording_format.specs.declared.faults.RecordingFault.{RecordingFault}
use Rattle.recording_format.specs.declared.faults.RecordingFault.TheVariants.{Refused as Numbered}
use Rattle.recording_format.specs.declared.records.Event.{Event}
use Rattle.recording_format.specs.declared.records.Event.TheVariants.{Begins, Arrives, Closes}
use Rattle.recording_format.specs.declared.records.Record.{Record}
use Rattle.recorded_arrivals.specs.Limits.{IsTooMany}
use Rattle.recording_format.specs.Following.{IsLegal}
use Rattle.recorded_runner.specs.Alone.{alone}
use Rattle.recorded_runner.specs.Readings.{replies_in, replies_to}
use Rattle.recorded_runner.specs.ReplayText.{replay_text}
use Rattle.recorded_runner.specs.Serving.{AreOwned, IsOwned, IsPlayed}
use Rattle.recorded_runner.specs.declared.played.Played.{Played}
use Rattle.recorded_runner.specs.declared.played.Summary.{Summary}
use Rattle.commands.proofs.BytesRead.{ready_read, recording_spelt}
use Rattle.commands.proofs.Checks.{recording_checked}
use Rattle.commands.proofs.RecordingLaws.{recorded_is, refused_is}
use Rattle.commands.proofs.ReplayLaws.{done_is_answered, recorded}
use Rattle.commands.proofs.Walking.{Giving, comes_end, comes_given}
use Rattle.commands.specs.CommandLine.{Asked, AsksReplay, ReplayWords, command_of}
use Rattle.commands.specs.Commands.{ending, plan_of}
use Rattle.commands.specs.Delivery.{Took}
use Rattle.commands.specs.Endings.{Done, Due, Ended, due, recording_fault, status_of, text_of}
use Rattle.commands.specs.Plans.{Comes, Ends, Goes, ReadsBytes, Step, Stops, found, go_on, over}
use Rattle.commands.specs.Promises.{Yields}
use Rattle.commands.specs.ReplayPlans.{check_recording, recording_end, recording_limit, recording_plan, replayed, summary_line, unless_too_many}
use Rattle.commands.specs.Replays.{AnswersReplay, WritesApart, WritesReplay}
use Rattle.commands.specs.declared.status.Status.{Status}
use Rattle.commands.specs.declared.status.Status.TheVariants as status

module _ {L : Type 0} (gave : Giving L) where
  ends_so : (config : Configuration) (programs : List Program) (lib : L) (planned : Due) (step : Step (List Record)) → planned ≡ due (recording_end config programs step)
      → Comes gave (go_on (λ records. Ends (replayed config programs records)) step) lib lib planned
  ends_so config programs lib planned (Stops e) is = comes_end gave e lib planned is
  ends_so config programs lib planned (Goes records) is = comes_end gave (replayed config programs records) lib planned is

  -- the recording's file was read, and the plan has ended by its bytes
  pub recording_comes : (name : List ℕ) (config : Configuration) (programs : List Program) (bytes : List ℕ) (old new : L) (planned : Due) → gave old new name recording_limit (Gives (Some bytes))
      → planned ≡ due (recording_end config programs (check_recording (length config.tenants) bytes)) → Comes gave (recording_plan name config programs) old new planned
  recording_comes name config programs bytes old new planned given is =
      comes_given gave name recording_limit (found name (check_recording (length config.tenants)) (λ records. Ends (replayed config programs records))) (Some bytes) old new new planned given
      (ends_so config programs new planned (check_recording (length config.tenants) bytes) is)

-- bytes that are a recording end as its replay
pub recorded_end : (config : Configuration) (programs : List Program) (bytes : List ℕ) (records : List Record) (tenants : ℕ) → tenants ≡ length config.tenants → tenants < 2 ^ 32 → Recorded tenants bytes records
    → recording_end config programs (check_recording (length config.tenants) bytes) ≡ replayed config programs records
recorded_end config programs bytes records tenants same few r =
    let checked = recording_checked tenants bytes (Ok records) (recorded_is tenants bytes records few r) in
    ap (λ (n : ℕ). recording_end config programs (check_recording n bytes)) (sym same) ∙ ap (recording_end config programs) checked

-- and bytes that are refused end so
pub refused_end : (config : Configuration) (programs : List Program) (bytes : List ℕ) (fault : RecordingFault) (number tenants : ℕ) → tenants ≡ length config.tenants → tenants < 2 ^ 32 → IsFor fault (IsRefused tenants bytes) → fault ≡ Numbered number
    → recording_end config programs (check_recording (length config.tenants) bytes) ≡ recording_fault number
refused_end config programs bytes fault number tenants same few told is =
    let here : IsFor (Numbered number) (IsRefused tenants bytes) = subst (λ (f : RecordingFault). IsFor f (IsRefused tenants bytes)) is told in
    let checked = recording_checked tenants bytes (Err here.0) (refused_is tenants bytes here.0 few here.2) in
    ap (λ (n : ℕ). recording_end config programs (check_recording n bytes)) (sym same) ∙ ap (recording_end config programs) checked
    ∙ ap recording_fault (sym here.1)

owned_one : (tenants n : ℕ) (event : Event) → tenants ≡ n → EventFits tenants event → IsOwned n event
owned_one tenants n (Begins tenant) same fits = omega (arith, same, fits)
owned_one tenants n (Arrives piece) same fits = tt
owned_one tenants n Closes same fits = tt

-- each connection of a recording is that of a tenant
pub owned : (tenants n : ℕ) (records : List Record) → tenants ≡ n → AllByRecursion (Fits tenants) records → AreOwned n records
owned tenants n [] same fit = tt
owned tenants n (r ∷ records) same fit = (owned_one tenants n r.event same fit.0.event, owned tenants n records same fit.1)

-- what was played is what is due
pub played_is : (config : Configuration) (programs : List Program) (records : List Record) (played : Played) → IsPlayed config programs records played → Done played.text.items (summary_line played.summary) ≡ replayed config programs records
played_is config programs records played p =
    ap (λ (text : List ℕ). Done text (summary_line played.summary)) p.text_is
    ∙ ap (λ (s : Summary). Done (replay_text config programs records) (summary_line s)) p.summary_is
    ∙ sym (ap (λ (b : Bool). unless_too_many b config programs records) p.few)

-- and so is the refusal of too many items
pub too_many_is : (config : Configuration) (programs : List Program) (records : List Record) (fault : RecordingFault) (number : ℕ) → IsTooMany records fault → fault ≡ Numbered number → recording_fault number ≡ replayed config programs records
too_many_is config programs records fault number told is =
    let here : IsTooMany records (Numbered number) = subst (IsTooMany records) is told in
    ap recording_fault here.0 ∙ sym (ap (λ (b : Bool). unless_too_many b config programs records) here.1)

-- The replay theorem, from what the outputs took.

status_is : (planned result : Status) (lib lib' : LibraryState) (out out' notes notes' : SinkState) → Yields planned result lib lib' out out' notes notes' → result ≡ status.Ok → planned ≡ status.Ok
status_is planned result lib lib' out out' notes notes' (inl same) is = sym same ∙ is
status_is planned result lib lib' out out' notes notes' (inr (inl memory)) is = cc
status_is planned result lib lib' out out' notes notes' (inr (inr (inl written))) is = let other = written.0 in cc
status_is planned result lib lib' out out' notes notes' (inr (inr (inr read))) is = let other = read.0 in cc

writes : (words : List (List ℕ)) (files : Files) (r : ReplayWords) (out out' notes notes' : SinkState) → command_of words ≡ Some (AsksReplay r) → AnswersReplay r files (ending words files) → Took (ending words files) out out' notes notes'
    → ReadsBytes files (plan_of (command_of words)) → WritesReplay r files out out' notes notes'
writes words files r out out' notes notes' asks a took reads =
    let wrote = subst (λ (e : Ended). Took e out out' notes notes') a.ends took in
    let planned : ReadsBytes files (plan_of (Some (AsksReplay r))) = subst (λ (asked : Option Asked). ReadsBytes files (plan_of asked)) asks reads in
    let ready = a.files_are.ready in
    let behind = ready_read files r.config_name (recording_plan r.recording_name) a.config a.programs ready.held ready.served planned in
    record {
      config = a.config;
      programs = a.programs;
      records = a.records;
      files_are = a.files_are;
      spelt = recording_spelt files r.recording_name a.config a.programs a.records a.files_are.recorded behind.1;
      answered = behind.0;
      out_took = wrote.out_took;
      notes_took = wrote.notes_took;
    }

pub writes_replay
    : (held : Option Files) (words : List (List ℕ)) (r : ReplayWords) (result : Status) (lib lib' : LibraryState) (out out' notes notes' : SinkState) → result ≡ status.Ok → command_of words ≡ Some (AsksReplay r)
    → IfSome held (λ files. Yields (status_of (over files (plan_of (command_of words)))) result lib lib' out out' notes notes') → IfSome held (λ files. Took (over files (plan_of (command_of words))) out out' notes notes')
    → IfSome held (λ files. ReadsBytes files (plan_of (command_of words))) → IfSome held (λ files. WritesReplay r files out out' notes notes')
writes_replay None words r result lib lib' out out' notes notes' done asks yields took reads = tt
writes_replay (Some files) words r result lib lib' out out' notes notes' done asks yields took reads =
    writes words files r out out' notes notes' asks (done_is_answered words files r asks (status_is _ result lib lib' out out' notes notes' yields done)) took reads

-- and that each tenant's replies are those that it has alone

-- a text of a legal recording's replay, where it is short
abbrev pub AreIsolated : Type 0
AreIsolated = (config : Configuration) (programs : List Program) (records : List Record) (tenant : ℕ) → IsLegal records → length (replay_text config programs records) < 2 ^ 32
    → replies_to tenant records (replay_text config programs records) ≡ replies_in (alone tenant records) (replay_text config programs (alone tenant records))

pub writes_apart : AreIsolated → (held : Option Files) (words : List (List ℕ)) (r : ReplayWords) (out out' notes notes' : SinkState) → command_of words ≡ Some (AsksReplay r)
    → IfSome held (λ files. length (text_of (over files (plan_of (command_of words)))) < 2 ^ 32) → IfSome held (λ files. WritesReplay r files out out' notes notes') → IfSome held (λ files. WritesApart r files out out')
writes_apart isolated None words r out out' notes notes' asks brief writes = tt
writes_apart isolated (Some files) words r out out' notes notes' asks brief w =
    let are = w.files_are in
    let ends : ending words files ≡ unless_too_many false w.config w.programs w.records =
    recorded words files r w.config w.programs are.recorded.file w.records false asks are.ready are.recorded.holds are.recorded.accepted are.few in
    let few : length (replay_text w.config w.programs w.records) < 2 ^ 32 = omega (arith, brief, ap (λ (e : Ended). length (text_of e)) ends) in
    record {
      config = w.config;
      programs = w.programs;
      records = w.records;
      files_are = are;
      text = replay_text w.config w.programs w.records;
      out_took = w.out_took;
      apart = λ tenant. isolated w.config w.programs w.records tenant w.spelt.legal few;
    }
