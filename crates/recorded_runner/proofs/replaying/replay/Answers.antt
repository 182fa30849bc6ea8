use Rattle.std.proofs.Common.{◌≡◌, ℕ, ◌<◌, ◌≤◌, List, [], length, map, sym, ap, ap₂, subst, ◌∙◌, arith}
use Rattle.std.proofs.lemmas.List.{length-map}
use Rattle.std.specs.List.{AllByRecursion}
use Rattle.recorded_arrivals.specs.Arrivals.{Arrived, arrivals}
use Rattle.http_items.specs.Items.{IsWithin}
use Rattle.recorded_arrivals.specs.Seen.{arrival_seen}
use Rattle.recording_format.specs.declared.records.Record.{Record}
use Rattle.recording_format.specs.Connections.{tenants_of}
use Rattle.recording_format.specs.Following.{IsLegal}
use Rattle.recording_format.proofs.ConnectionLaws.{begun}
use Rattle.serve_config.specs.Loaded.{programs_in}
use Rattle.recorded_runner.specs.Fates.{Decided, decided_behind}
use Rattle.recorded_runner.specs.Readings.{replies_to}
use Rattle.recorded_runner.specs.Seen.{decided_seen}
use Rattle.recorded_runner.specs.Serving.{IsServable}
use Rattle.recorded_runner.proofs.FateLaws.{all_servable, all_begun, as_many}
use Rattle.recorded_runner.proofs.ReplayLaws.{owners_known, played_is, short_is}
use Rattle.recorded_runner.proofs.replaying.replay.Goals as goal

pub decide_all-requires-clause-within : goal.decide_all-requires-clause-within
decide_all-requires-clause-within g c =
    subst (λ (items : List Arrived). AllByRecursion (λ (a : Arrived). IsWithin a.heard) items) (sym c.in_ok-arrived.ensures.all) (c.items_within_limits.ensures.within c.args.recording.now)

pub decide_all-requires-clause-owned : goal.decide_all-requires-clause-owned
decide_all-requires-clause-owned g c =
    let owners : c.as_slice.result.now ≡ tenants_of c.args.recording.now = c.as_slice.ensures.value ∙ c.in_ok-owners.ensures ∙ ap (λ (rs : List Record). tenants_of rs) c.records.ensures.same in
    subst (λ (os : List ℕ). AllByRecursion (λ (o : ℕ). o < length c.args.config.now.tenants) os) (sym owners) (owners_known (length c.args.config.now.tenants) c.args.recording.now c.requires.tenants)

pub serve_all-requires-clause-servable : goal.serve_all-requires-clause-servable
serve_all-requires-clause-servable g c κs within =
    let tenants = c.args.config.now.tenants in
    let all = subst (λ (items : List Arrived). AllByRecursion (λ (a : Arrived). IsWithin a.heard) items) (sym c.in_ok-arrived.ensures.all) (c.items_within_limits.ensures.within c.args.recording.now) in
    subst (λ (items : List Decided). AllByRecursion (λ (d : Decided). IsServable tenants d.fate) items) (sym c.in_ok-decided.ensures)
    (all_servable c.routes_are_numbered.ensures tenants c.as_slice.result.now [] (map arrival_seen c.in_ok-arrived.arrived.items) all)

pub serve_all-requires-clause-begun : goal.serve_all-requires-clause-begun
serve_all-requires-clause-begun g c κs within =
    let rs = c.args.recording.now in
    let count = c.connections-connections.result in
    let legal : IsLegal rs = subst (λ (these : List Record). IsLegal these) c.records.ensures.same c.records.ensures.legal in
    let many : count ≡ length (tenants_of rs) = c.connections-connections.ensures.begun ∙ begun rs in
    let all : AllByRecursion (λ (a : Arrived). a.link < count) (map arrival_seen c.in_ok-arrived.arrived.items) =
    subst (λ (items : List Arrived). AllByRecursion (λ (a : Arrived). a.link < count) items) (sym c.in_ok-arrived.ensures.all)
    (subst (λ (n : ℕ). AllByRecursion (λ (a : Arrived). a.link < n) (arrivals rs)) (sym many) (c.items_within_limits.ensures.begun rs legal)) in
    subst (λ (items : List Decided). AllByRecursion (λ (d : Decided). d.link < count) items) (sym c.in_ok-decided.ensures)
    (all_begun c.args.config.now.tenants c.as_slice.result.now count [] (map arrival_seen c.in_ok-arrived.arrived.items) all)

pub serve_all-requires-clause-few : goal.serve_all-requires-clause-few
serve_all-requires-clause-few g c κs within =
    let seen = map arrival_seen c.in_ok-arrived.arrived.items in
    omega (
      arith,
      length-map c.in_ok-decided.decided.items decided_seen,
      ap (λ (items : List Decided). length items) c.in_ok-decided.ensures,
      as_many c.args.config.now.tenants c.as_slice.result.now [] seen,
      length-map c.in_ok-arrived.arrived.items arrival_seen,
      c.in_ok-arrived.ensures.few,
      c.in_ok-arrived.arrived.ok.0,
    )

pub returns-clause-played : goal.returns-clause-played
returns-clause-played g c =
    let rs = c.args.recording.now in
    let tenants = c.args.config.now.tenants in
    let all = c.in_ok-arrived.ensures.all in
    let owners : c.as_slice.result.now ≡ tenants_of rs = c.as_slice.ensures.value ∙ c.in_ok-owners.ensures ∙ ap (λ (these : List Record). tenants_of these) c.records.ensures.same in
    let few : length (arrivals rs) ≤ 4096 = omega (arith, ap (λ (items : List Arrived). length items) all, length-map c.in_ok-arrived.arrived.items arrival_seen, c.in_ok-arrived.ensures.few, c.in_ok-arrived.arrived.ok.0) in
    let many : length (tenants_of rs) ≡ c.connections-connections.result = sym (c.connections-connections.ensures.begun ∙ begun rs) in
    let is = c.in_ok-decided.ensures ∙ ap₂ (λ (os : List ℕ) (items : List Arrived). decided_behind tenants os [] items) owners all in
    played_is c.args.config.now (programs_in c.args.programs.now) rs c.connections-connections.result (map decided_seen c.in_ok-decided.decided.items) c.in_ok-serve_all.field-0 few many is c.in_ok-serve_all.ensures.written

pub returns-clause-short : goal.returns-clause-short
returns-clause-short g c =
    let rs = c.args.recording.now in
    let tenants = c.args.config.now.tenants in
    let owners : c.as_slice.result.now ≡ tenants_of rs = c.as_slice.ensures.value ∙ c.in_ok-owners.ensures ∙ ap (λ (these : List Record). tenants_of these) c.records.ensures.same in
    let is = c.in_ok-decided.ensures ∙ ap₂ (λ (os : List ℕ) (items : List Arrived). decided_behind tenants os [] items) owners c.in_ok-arrived.ensures.all in
    short_is c.args.config.now (programs_in c.args.programs.now) rs (map decided_seen c.in_ok-decided.decided.items) is c.in_ok-serve_all.ensures.short

pub returns-clause-isolated : goal.returns-clause-isolated
returns-clause-isolated g c = λ tenant.
    let rs = c.args.recording.now in
    let legal : IsLegal rs = subst (λ (these : List Record). IsLegal these) c.records.ensures.same c.records.ensures.legal in
    ap (λ (text : List ℕ). replies_to tenant rs text) (returns-clause-played g c).text_is
    ∙ c.tenants_are_isolated.ensures.texts c.args.config.now (programs_in c.args.programs.now) rs tenant legal (λ link below. returns-clause-short g c link)
