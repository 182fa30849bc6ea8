-- The reads of `load_programs` are those of the plan of the modules.
use Rattle.std.proofs.Common.{◌≡◌, ◌⊎◌, inl, inr, ℕ, zero, suc, ◌+◌, List, [], ◌∷◌, Option, None, Some, Result, Ok, Err, refl, sym, ap, subst, ◌∙◌, arith}
use Rattle.std.specs.Prelude.{slice_get}
use Rattle.outside.specs.Library.{Fails, Fetched, Gives}
use Rattle.serve_config.specs.Configuration.{Configuration}
use Rattle.serve_config.specs.Outcome.{IsDue}
use Rattle.serve_config.specs.Reading.{configuration}
use Rattle.serve_config.specs.Refusals.{number_of}
use Rattle.serve_config.specs.Routing.{all_routes}
use Rattle.serve_config.specs.declared.faults.ConfigFault.{ConfigFault}
use Rattle.serve_config.specs.declared.faults.ConfigFault.TheVariants.{Refused as Numbered}
use Rattle.wasm_reader.specs.Modules.{most_bytes}
use Rattle.wasm_meaning.specs.Programs.{Program}
use Rattle.module_files.specs.FilePrograms.{Unfit, program_of}
use Rattle.serve_config.specs.Loading.{Unloaded, NotRead, IsUnfit, Loads, LoadsAll, Follows, fit, from_answer, with_first}
use Rattle.recorded_runner.specs.Serving.{AreProgramsOf}
use Rattle.module_files.proofs.Programs.{made_pages}
use Rattle.serve_config.specs.declared.tenants.Route.{Route}
use Rattle.commands.proofs.Checks.{config_checked}
use Rattle.commands.proofs.Walking.{Giving, comes_end, comes_given}
use Rattle.commands.specs.CheckPlans.{Onward, check_config, check_route, config_limit, config_plan, module_name, modules_plan, routes_plan}
use Rattle.commands.specs.Endings.{Due, Ended, config_fault, due, module_fault, not_read}
use Rattle.commands.specs.ModuleChecks.{module_step}
use Rattle.commands.specs.Readying.{Readies}
use Rattle.commands.specs.declared.checking.Configured.{Configured}
use Rattle.commands.specs.declared.checking.Unready.{Unready}
use Rattle.commands.specs.declared.checking.Unready.TheVariants.{Refused, NoMemory}
use Rattle.commands.specs.Plans.{Comes, Ends, Goes, Leads, Plan, Reads, Step, Stops, Walks, found, go_on}

-- What is made of one file is what its check makes of it.

goes : (number : ℕ) (r : Route) (bytes : List ℕ) (made : Result Program Unfit) (program : Program) → program_of r.pages bytes ≡ made → fit number made ≡ Ok program → check_route number r bytes ≡ Goes program
goes number r bytes (Ok other) program is fits = let same : other ≡ program = cc in ap (module_step number) is ∙ ap (λ (p : Program). Goes p) same
goes number r bytes (Err why) program is fits = cc

stops : (number : ℕ) (r : Route) (bytes : List ℕ) (made : Result Program Unfit) (route refusal place : ℕ) → program_of r.pages bytes ≡ made → fit number made ≡ Err (IsUnfit route refusal place)
    → check_route number r bytes ≡ Stops (module_fault route refusal place)
stops number r bytes (Ok other) route refusal place is fits = cc
stops number r bytes (Err why) route refusal place is fits =
    let a : number ≡ route = cc in
    let b : why.number ≡ refusal = cc in
    let c : why.place ≡ place = cc in
    ap (module_step number) is ∙ (rw (a, b, c) refl)

never_unread : (number : ℕ) (made : Result Program Unfit) (route : ℕ) → fit number made ≡ Err (NotRead route) → ⊥
never_unread number (Ok other) route e = cc
never_unread number (Err why) route e = cc

-- A program that comes of a file has the pages that it was given.
fit_pages : (number : ℕ) (r : Route) (bytes : List ℕ) (made : Result Program Unfit) (program : Program) → program_of r.pages bytes ≡ made → fit number made ≡ Ok program → program.pages ≡ r.pages
fit_pages number r bytes (Ok other) program is fits = let same : other ≡ program = cc in made_pages r.pages bytes program (is ∙ ap (λ (p : Program). Ok p) same)
fit_pages number r bytes (Err why) program is fits = cc

-- How the refusal of one of these routes ends, of which the first has this number.
abbrev pub EndsRoutes : (number : ℕ) → List Route → Unloaded → Ended → Type 0
EndsRoutes number routes (NotRead route) e = (place : ℕ) × (r : Route) × (slice_get routes place ≡ Some r) × (route ≡ number + place) × (e ≡ not_read (module_name r))
EndsRoutes number routes (IsUnfit route refusal place) e = e ≡ module_fault route refusal place

ends_later : (number : ℕ) (r : Route) (routes : List Route) (why : Unloaded) (e : Ended) → EndsRoutes (suc number) routes why e → EndsRoutes number (r ∷ routes) why e
ends_later number r routes (NotRead route) e h = (suc h.0, h.1, h.2, (let at : route ≡ suc number + h.0 = h.3 in let there : route ≡ number + suc h.0 = omega arith in there), h.4)
ends_later number r routes (IsUnfit route refusal place) e h = h

module _ {L : Type 0} (gave : Giving L) where
  -- a file was read and gave a program, and the plan goes on with it
  one_leads : (number : ℕ) (r : Route) (old between : L) (program : Program) (next : Program → Plan) → Loads gave number r old between (Ok program)
      → (new : L) (e : Ended) → Walks gave (next program) between new e → Walks gave (Reads (module_name r) most_bytes (found (module_name r) (check_route number r) next)) old new e
  one_leads number r old between program next (inl failed) new e walk = let bad = failed.1 in cc
  one_leads number r old between program next (inr (None, given, is)) new e walk = cc
  one_leads number r old between program next (inr (Some bytes, given, is)) new e walk =
      inr (between, Some bytes, given, subst (λ (step : Step Program). Walks gave (go_on next step) between new e) (sym (goes number r bytes (program_of r.pages bytes) program refl (sym is))) walk)

  one_fits : (number : ℕ) (r : Route) (old between : L) (program : Program) → Loads gave number r old between (Ok program) → program.pages ≡ r.pages
  one_fits number r old between program (inl failed) = let bad = failed.1 in cc
  one_fits number r old between program (inr (None, given, is)) = cc
  one_fits number r old between program (inr (Some bytes, given, is)) = fit_pages number r bytes (program_of r.pages bytes) program refl (sym is)

  -- a file was not read, or gave none, and the plan has ended
  one_stops : (number : ℕ) (r : Route) (routes : List Route) (old new : L) (why : Unloaded) (next : Program → Plan) → Loads gave number r old new (Err why)
      → (e : Ended) × EndsRoutes number (r ∷ routes) why e × Walks gave (Reads (module_name r) most_bytes (found (module_name r) (check_route number r) next)) old new e
  one_stops number r routes old new (NotRead route) next (inl failed) =
      let same : route ≡ number = (let told = failed.1 in cc) in
      let at : route ≡ number + 0 = omega arith in
      (not_read (module_name r), (0, r, refl, at, refl), inl (failed.0, refl))
  one_stops number r routes old new (IsUnfit route refusal place) next (inl failed) = let told = failed.1 in cc
  one_stops number r routes old new (NotRead route) next (inr (None, given, is)) =
      let same : route ≡ number = cc in
      let at : route ≡ number + 0 = omega arith in
      (not_read (module_name r), (0, r, refl, at, refl), inr (new, None, given, (refl, refl)))
  one_stops number r routes old new (IsUnfit route refusal place) next (inr (None, given, is)) = cc
  one_stops number r routes old new (NotRead route) next (inr (Some bytes, given, is)) = absurd (never_unread number (program_of r.pages bytes) route (sym is))
  one_stops number r routes old new (IsUnfit route refusal place) next (inr (Some bytes, given, is)) = (
    module_fault route refusal place,
    refl,
    inr (new, Some bytes, given, subst (λ (step : Step Program). Walks gave (go_on next step) new new (module_fault route refusal place)) (sym (stops number r bytes (program_of r.pages bytes) route refusal place refl (sym is))) (refl, refl)),
  )

  -- all files gave programs, and the plan goes on with these
  pub all_lead : (number : ℕ) (routes : List Route) (old between : L) (programs : List Program) (next : List Program → Plan) → LoadsAll gave number routes old between (Ok programs)
      → (new : L) (e : Ended) → Walks gave (next programs) between new e → Walks gave (modules_plan number routes next) old new e
  all_lead number [] old between programs next h new e walk =
      let none : programs ≡ [] = (let told = h.0 in cc) in
      subst (λ (lib : L). Walks gave (next []) lib new e) h.1 (subst (λ (ps : List Program). Walks gave (next ps) between new e) none walk)
  all_lead number (r ∷ routes) old between programs next (middle, Ok program, loads, (Ok others, more, is)) new e walk =
      let both : programs ≡ program ∷ others = cc in
      one_leads number r old middle program (λ value. modules_plan (suc number) routes (λ values. next (value ∷ values))) loads new e
      (all_lead (suc number) routes middle between others (λ values. next (program ∷ values)) more new e (subst (λ (ps : List Program). Walks gave (next ps) between new e) both walk))
  all_lead number (r ∷ routes) old between programs next (middle, Ok program, loads, (Err why, more, is)) new e walk = cc
  all_lead number (r ∷ routes) old between programs next (middle, Err why, loads, stopped) new e walk = let told = stopped.0 in cc

  -- these are programs of the routes
  pub all_fit : (number : ℕ) (routes : List Route) (old between : L) (programs : List Program) → LoadsAll gave number routes old between (Ok programs) → AreProgramsOf routes programs
  all_fit number [] old between [] h = tt
  all_fit number [] old between (program ∷ programs) h = let told = h.0 in absurd cc
  all_fit number (r ∷ routes) old between [] (middle, Ok program, loads, (Ok others, more, is)) = absurd cc
  all_fit number (r ∷ routes) old between [] (middle, Ok program, loads, (Err why, more, is)) = absurd cc
  all_fit number (r ∷ routes) old between [] (middle, Err why, loads, stopped) = let told = stopped.0 in absurd cc
  all_fit number (r ∷ routes) old between (first ∷ programs) (middle, Ok program, loads, (Ok others, more, is)) =
      let one : program ≡ first = cc in
      let same : others ≡ programs = cc in (
        subst (λ (p : Program). p.pages ≡ r.pages) one (one_fits number r old middle program loads),
        subst (λ (ps : List Program). AreProgramsOf routes ps) same (all_fit (suc number) routes middle between others more),
      )
  all_fit number (r ∷ routes) old between (first ∷ programs) (middle, Ok program, loads, (Err why, more, is)) = absurd cc
  all_fit number (r ∷ routes) old between (first ∷ programs) (middle, Err why, loads, stopped) = let told = stopped.0 in absurd cc

  -- the first file that gave none ends the plan
  pub all_stop : (number : ℕ) (routes : List Route) (old new : L) (why : Unloaded) (next : List Program → Plan) → LoadsAll gave number routes old new (Err why)
      → (e : Ended) × EndsRoutes number routes why e × Walks gave (modules_plan number routes next) old new e
  all_stop number [] old new why next h = let told = h.0 in cc
  all_stop number (r ∷ routes) old new why next (middle, Ok program, loads, (Ok others, more, is)) = cc
  all_stop number (r ∷ routes) old new why next (middle, Ok program, loads, (Err other, more, is)) =
      let same : other ≡ why = cc in
      let rest = all_stop (suc number) routes middle new why (λ values. next (program ∷ values)) (subst (λ (w : Unloaded). LoadsAll gave (suc number) routes middle new (Err w)) same more) in (
        rest.0,
        ends_later number r routes why rest.0 rest.1,
        one_leads number r old middle program (λ value. modules_plan (suc number) routes (λ values. next (value ∷ values))) loads new rest.0 rest.2,
      )
  all_stop number (r ∷ routes) old new why next (middle, Err other, loads, stopped) =
      let same : other ≡ why = (let told = stopped.0 in cc) in
      one_stops number r routes old new why (λ value. modules_plan (suc number) routes (λ values. next (value ∷ values)))
      (subst (λ (w : Unloaded). Loads gave number r old new (Err w)) same (subst (λ (lib : L). Loads gave number r old lib (Err other)) (sym stopped.1) loads))

  -- behind reads with which a plan begins it comes to what is left
  pub leads_comes : (plan left : Plan) (old between new : L) (planned : Due) → Leads gave plan left old between → Comes gave left between new planned → Comes gave plan old new planned
  leads_comes plan left old between new planned reads rest = record { ending = rest.ending; walk = reads.leads new rest.ending rest.walk; is_due = rest.is_due }

  -- What the calls of `checking.rt` make of these reads.

  pub programs_lead : (config : Configuration) (next : Onward) (old between : L) (programs : List Program) → LoadsAll gave 0 (all_routes config.tenants) old between (Ok programs)
      → Leads gave (routes_plan next config) (next config programs) old between
  programs_lead config next old between programs loads = record { leads = all_lead 0 (all_routes config.tenants) old between programs (next config) loads }

  pub unread_comes : (config : Configuration) (next : Onward) (old new : L) (route : ℕ) (r : Route) (planned : Due) → LoadsAll gave 0 (all_routes config.tenants) old new (Err (NotRead route))
      → slice_get (all_routes config.tenants) route ≡ Some r → planned ≡ due (not_read (module_name r)) → Comes gave (routes_plan next config) old new planned
  unread_comes config next old new route r planned loads its is =
      let stop = all_stop 0 (all_routes config.tenants) old new (NotRead route) (next config) loads in
      let at : route ≡ stop.1.0 = omega (arith, stop.1.3) in
      let there : Some r ≡ Some stop.1.1 = sym its ∙ ap (λ (n : ℕ). slice_get (all_routes config.tenants) n) at ∙ stop.1.2 in
      let same : r ≡ stop.1.1 = cc in
      record { ending = stop.0; walk = stop.2; is_due = is ∙ ap (λ (q : Route). due (not_read (module_name q))) same ∙ ap due (sym stop.1.4) }

  pub unfit_comes : (config : Configuration) (next : Onward) (old new : L) (route refusal place : ℕ) (planned : Due) → LoadsAll gave 0 (all_routes config.tenants) old new (Err (IsUnfit route refusal place))
      → planned ≡ due (module_fault route refusal place) → Comes gave (routes_plan next config) old new planned
  unfit_comes config next old new route refusal place planned loads is =
      let stop = all_stop 0 (all_routes config.tenants) old new (IsUnfit route refusal place) (next config) loads in
      record { ending = stop.0; walk = stop.2; is_due = is ∙ ap due (sym stop.1) }

  pub refused_comes : (bytes : List ℕ) (next : Onward) (lib : L) (fault : ConfigFault) (number : ℕ) (planned : Due) → IsDue fault (configuration bytes) → fault ≡ Numbered number
      → planned ≡ due (config_fault number) → Comes gave (go_on (routes_plan next) (check_config bytes)) lib lib planned
  refused_comes bytes next lib fault number planned told same is =
      let due_here : IsDue (Numbered number) (configuration bytes) = subst (λ (f : ConfigFault). IsDue f (configuration bytes)) same told in
      subst (λ (step : Step Configuration). Comes gave (go_on (routes_plan next) step) lib lib planned) (sym (config_checked bytes (Err due_here.0) due_here.2))
      (comes_end gave (config_fault (number_of due_here.0)) lib planned (is ∙ ap (λ (n : ℕ). due (config_fault n)) due_here.1))

  pub read_readies : (name bytes : List ℕ) (result : Result Configured Unready) (old between new : L) → gave old between name config_limit (Gives (Some bytes))
      → Readies gave (λ next. go_on (routes_plan next) (check_config bytes)) result between new → Readies gave (config_plan name) result old new
  read_readies name bytes (Ok ready) old between new given readies =
      (λ next. record { leads = λ last e walk. inr (between, Some bytes, given, (readies.0 next).leads last e walk) }, readies.1)
  read_readies name bytes (Err (Refused planned)) old between new given readies =
      λ next. comes_given gave name config_limit (found name check_config (routes_plan next)) (Some bytes) old between new planned given (readies next)
  read_readies name bytes (Err NoMemory) old between new given readies = tt

  pub ready_comes : (plan : Onward → Plan) (next : Onward) (why : Unready) (old new : L) (planned : Due) → Readies gave plan (Err why) old new → why ≡ Refused planned → Comes gave (plan next) old new planned
  ready_comes plan next why old new planned readies is =
      subst (λ (w : Unready). Readies gave plan (Err w) old new) is readies next
