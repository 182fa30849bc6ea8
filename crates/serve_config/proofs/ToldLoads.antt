-- What is loaded over files that are told, in the words of the files; and that reads of a library that tells its files come to it.
use Rattle.std.proofs.Common.{◌≡◌, ◌⊎◌, ◌↔◌, inl, inr, ℕ, suc, ◌+◌, ◌≤◌, List, [], ◌∷◌, ◌++◌, length, take, Option, None, Some, Result, Ok, Err, refl, sym, ap, subst, ◌∙◌, arith}
use Rattle.std.specs.Option.{option_map}
use Rattle.outside.specs.Faults.{Rose}
use Rattle.outside.specs.Library.{Fails, Fetched, Files, Gives, IsTold, LibraryState, Tells}
use Rattle.wasm_reader.specs.Modules.{most_bytes}
use Rattle.wasm_meaning.specs.Programs.{Program}
use Rattle.serve_config.specs.declared.tenants.Route.{Route}
use Rattle.module_files.specs.FilePrograms.{Unfit, program_of}
use Rattle.serve_config.specs.Loading.{HasNone, HasProgram, HavePrograms, IsFirstWithNone, IsUnfit, Loads, LoadsAll, NotRead, Unloaded, fit, follow, from_answer, loaded, with_first}
use Rattle.serve_config.specs.Loaded.{HasFailed}
use Rattle.outside.proofs.ToldFiles.{told_file}
use Rattle.module_files.proofs.Programs.{program_front}

-- What is loaded over files, by what they are.

from_held : (number : ℕ) (r : Route) (file : List ℕ) (held : Option (List ℕ)) (made : Result Program Unfit) → held ≡ Some file → program_of r.pages file ≡ made → from_answer number r held ≡ fit number made
from_held number r file held made is makes = ap (from_answer number r) is ∙ ap (fit number) makes

pub loaded_all : (files : Files) (first : ℕ) (routes : List Route) (programs : List Program) → HavePrograms files routes programs → loaded files first routes ≡ Ok programs
loaded_all files first [] [] have = refl
loaded_all files first [] (program ∷ programs) have = absurd have
loaded_all files first (r ∷ routes) [] have = absurd have
loaded_all files first (r ∷ routes) (program ∷ programs) have =
    ap (λ one. follow one (loaded files (suc first) routes)) (from_held first r have.0.file (files r.«module») (Ok program) have.0.held have.0.made)
    ∙ ap (with_first program) (loaded_all files (suc first) routes programs have.1)

-- behind routes that have programs the others come
loaded_behind : (files : Files) (first next : ℕ) (before : List Route) (programs : List Program) (routes : List Route) (why : Unloaded) → next ≡ first + length before → HavePrograms files before programs
    → loaded files next routes ≡ Err why → loaded files first (before ++ routes) ≡ Err why
loaded_behind files first next [] [] routes why at have is =
    let same : next ≡ first = omega (arith, at) in
    subst (λ (n : ℕ). loaded files n routes ≡ Err why) same is
loaded_behind files first next [] (program ∷ programs) routes why at have is = absurd have
loaded_behind files first next (r ∷ before) [] routes why at have is = absurd have
loaded_behind files first next (r ∷ before) (program ∷ programs) routes why at have is =
    ap (λ one. follow one (loaded files (suc first) (before ++ routes))) (from_held first r have.0.file (files r.«module») (Ok program) have.0.held have.0.made)
    ∙ ap (with_first program) (loaded_behind files (suc first) next before programs routes why (omega (arith, at)) have.1 is)

none_loaded : (files : Files) (number : ℕ) (r : Route) (after : List Route) (why : Unloaded) → HasNone files number r why → loaded files number (r ∷ after) ≡ Err why
none_loaded files number r after (NotRead route) none =
    ap (λ held. follow (from_answer number r held) (loaded files (suc number) after)) none.1 ∙ ap (λ (n : ℕ). Err (NotRead n)) (sym none.0)
none_loaded files number r after (IsUnfit route refusal place) none =
    ap (λ one. follow one (loaded files (suc number) after)) (from_held number r none.0 (files r.«module») (Err (record { number = refusal; place = place })) none.1 none.2)
    ∙ ap (λ (n : ℕ). Err (IsUnfit n refusal place)) (sym none.3)

pub loaded_none : (files : Files) (first : ℕ) (routes : List Route) (why : Unloaded) → IsFirstWithNone files first routes why → loaded files first routes ≡ Err why
loaded_none files first routes why is =
    ap (λ (rs : List Route). loaded files first rs) is.split
    ∙ loaded_behind files first (first + length is.before) is.before is.programs (is.route ∷ is.after) why refl is.served
    (none_loaded files (first + length is.before) is.route is.after why is.none)

-- one route before others
none_later : (files : Files) (first : ℕ) (r : Route) (routes : List Route) (program : Program) (why : Unloaded) → HasProgram files r program → IsFirstWithNone files (suc first) routes why → IsFirstWithNone files first (r ∷ routes) why
none_later files first r routes program why has is = record {
  before = r ∷ is.before;
  route = is.route;
  after = is.after;
  split = ap (λ (rs : List Route). r ∷ rs) is.split;
  programs = program ∷ is.programs;
  served = (has, is.served);
  none = let same : suc first + length is.before ≡ first + suc (length is.before) = omega arith in subst (λ (n : ℕ). HasNone files n is.route why) same is.none;
}

none_here : (files : Files) (first : ℕ) (r : Route) (routes : List Route) (why : Unloaded) → HasNone files first r why → IsFirstWithNone files first (r ∷ routes) why
none_here files first r routes why none = record {
  before = [];
  route = r;
  after = routes;
  split = refl;
  programs = [];
  served = tt;
  none = let same : first ≡ first + 0 = omega arith in subst (λ (n : ℕ). HasNone files n r why) same none;
}

-- what came of these routes, told by their files
abbrev IsByFiles : Files → (first : ℕ) → List Route → Result (List Program) Unloaded → Type 0
IsByFiles files first routes (Ok programs) = HavePrograms files routes programs
IsByFiles files first routes (Err why) = IsFirstWithNone files first routes why

of_rest : (files : Files) (first : ℕ) (r : Route) (routes : List Route) (program : Program) (rest : Result (List Program) Unloaded) → HasProgram files r program → IsByFiles files (suc first) routes rest
    → IsByFiles files first (r ∷ routes) (with_first program rest)
of_rest files first r routes program (Ok programs) has others = (has, others)
of_rest files first r routes program (Err why) has is = none_later files first r routes program why has is

of_made : (files : Files) (first : ℕ) (r : Route) (routes : List Route) (file : List ℕ) (made : Result Program Unfit) (rest : Result (List Program) Unloaded) → files r.«module» ≡ Some file → program_of r.pages file ≡ made
    → IsByFiles files (suc first) routes rest → IsByFiles files first (r ∷ routes) (follow (fit first made) rest)
of_made files first r routes file (Ok program) rest held makes others = of_rest files first r routes program rest (record { file = file; held = held; made = makes }) others
of_made files first r routes file (Err why) rest held makes others = none_here files first r routes (IsUnfit first why.number why.place) (file, held, makes, refl)

of_held : (files : Files) (first : ℕ) (r : Route) (routes : List Route) (held : Option (List ℕ)) (rest : Result (List Program) Unloaded) → files r.«module» ≡ held → IsByFiles files (suc first) routes rest
    → IsByFiles files first (r ∷ routes) (follow (from_answer first r held) rest)
of_held files first r routes None rest is others = none_here files first r routes (NotRead first) (refl, is)
of_held files first r routes (Some file) rest is others = of_made files first r routes file (program_of r.pages file) rest is refl others

of_files : (files : Files) (first : ℕ) (routes : List Route) → IsByFiles files first routes (loaded files first routes)
of_files files first [] = tt
of_files files first (r ∷ routes) = of_held files first r routes (files r.«module») (loaded files (suc first) routes) refl (of_files files (suc first) routes)

pub all_or_not : (files : Files) (first : ℕ) (routes : List Route) (programs : List Program) → loaded files first routes ≡ Ok programs ↔ HavePrograms files routes programs
all_or_not files first routes programs = (λ is. subst (IsByFiles files first routes) is (of_files files first routes), loaded_all files first routes programs)

pub first_or_not : (files : Files) (first : ℕ) (routes : List Route) (why : Unloaded) → loaded files first routes ≡ Err why ↔ IsFirstWithNone files first routes why
first_or_not files first routes why = (λ is. subst (IsByFiles files first routes) is (of_files files first routes), loaded_none files first routes why)

-- Reads of a library.

rose_since : (before middle now : ℕ) → before ≤ middle → Rose middle now → Rose before now
rose_since before middle now later rose = omega arith

never_unread : (number : ℕ) (made : Result Program Unfit) (route : ℕ) → fit number made ≡ Err (NotRead route) → ⊥
never_unread number (Ok program) route is = cc
never_unread number (Err why) route is = cc

-- a front that was given does for its file
answer_whole : (number : ℕ) (r : Route) (file answer : Option (List ℕ)) → option_map (take (most_bytes + 1)) file ≡ answer → from_answer number r answer ≡ from_answer number r file
answer_whole number r None None told = refl
answer_whole number r None (Some bytes) told = cc
answer_whole number r (Some whole) None told = cc
answer_whole number r (Some whole) (Some bytes) told =
    let front : bytes ≡ take (most_bytes + 1) whole = cc in
    ap (λ (given : List ℕ). fit number (program_of r.pages given)) front ∙ ap (fit number) (program_front r.pages whole)

failed_rose : (held : Option Files) (name : List ℕ) (before now : ℕ) → IsTold held name most_bytes before now Fails → Rose before now
failed_rose None name before now rose = rose
failed_rose (Some files) name before now rose = rose

module _ {L : Type 0} (state : L → LibraryState) (gave : L → L → List ℕ → ℕ → Fetched → Type 0)
    (tells : (old new : L) (name : List ℕ) (most : ℕ) (fetched : Fetched) → gave old new name most fetched → Tells (state old) (state new) name most fetched) where
  -- a read of a route's file keeps the library
  keeps : (number : ℕ) (r : Route) (old between : L) (one : Result Program Unloaded) → Loads gave number r old between one → ((state between).held ≡ (state old).held) × ((state old).faults ≤ (state between).faults)
  keeps number r old between one (inl failed) = let law = tells old between r.«module» most_bytes Fails failed.0 in (law.same, law.later)
  keeps number r old between one (inr (answer, given, is)) = let law = tells old between r.«module» most_bytes (Gives answer) given in (law.same, law.later)

  -- and gives its file, or it failed
  one_over : (files : Files) (number : ℕ) (r : Route) (old between : L) (one : Result Program Unloaded) → (state old).held ≡ Some files → Loads gave number r old between one
      → (one ≡ from_answer number r (files r.«module»)) ⊎ ((one ≡ Err (NotRead number)) × Rose (state old).faults (state between).faults)
  one_over files number r old between one holds (inl failed) =
      inr (failed.1, failed_rose (state old).held r.«module» (state old).faults (state between).faults (tells old between r.«module» most_bytes Fails failed.0).told)
  one_over files number r old between one holds (inr (answer, given, is)) =
      let law = tells old between r.«module» most_bytes (Gives answer) given in
      let told = subst (λ held. IsTold held r.«module» most_bytes (state old).faults (state between).faults (Gives answer)) holds law.told in
      inl (is ∙ answer_whole number r (files r.«module») answer (told_file files r.«module» most_bytes (state old).faults (state between).faults answer told))

  pub loads_over : (files : Files) (first : ℕ) (routes : List Route) (old new : L) (came : Result (List Program) Unloaded) → (state old).held ≡ Some files → LoadsAll gave first routes old new came
      → (came ≡ loaded files first routes) ⊎ HasFailed came (state old).faults (state new).faults
  loads_over files first [] old new came holds loads = inl loads.0
  loads_over files first (r ∷ routes) old new came holds (between, Ok program, loads, (rest, others, is)) =
      elim (one_over files first r old between (Ok program) holds loads) [
        | inl same ↦ behind same (loads_over files (suc first) routes between new rest (kept.0 ∙ holds) others)
        | inr failed ↦ (let bad = failed.0 in cc)
      ]
    where
      kept : ((state between).held ≡ (state old).held) × ((state old).faults ≤ (state between).faults)
      kept = keeps first r old between (Ok program) loads

      behind : Ok program ≡ from_answer first r (files r.«module») → (rest ≡ loaded files (suc first) routes) ⊎ HasFailed rest (state between).faults (state new).faults
          → (came ≡ loaded files first (r ∷ routes)) ⊎ HasFailed came (state old).faults (state new).faults
      behind same (inl over) = inl (is ∙ ap (with_first program) over ∙ ap (λ one. follow one (loaded files (suc first) routes)) same)
      behind same (inr failed) = inr (failed.0, is ∙ ap (with_first program) failed.1, rose_since (state old).faults (state between).faults (state new).faults kept.1 failed.2)
  loads_over files first (r ∷ routes) old new came holds (between, Err why, loads, (is, here)) =
      elim (one_over files first r old between (Err why) holds loads) [
        | inl same ↦ inl (is ∙ ap (λ one. follow one (loaded files (suc first) routes)) same)
        | inr failed ↦ inr (first, is ∙ (let same : why ≡ NotRead first = (let told = failed.0 in cc) in ap (λ w. Err w) same), subst (λ (lib : L). Rose (state old).faults (state lib).faults) (sym here) failed.1)
      ]

  -- a library that tells nothing answers no bytes for a name only where the count rose
  untold_rose : (number : ℕ) (r : Route) (old between : L) (route : ℕ) → (state old).held ≡ None → Loads gave number r old between (Err (NotRead route)) → Rose (state old).faults (state between).faults
  untold_rose number r old between route holds (inl failed) =
      failed_rose (state old).held r.«module» (state old).faults (state between).faults (tells old between r.«module» most_bytes Fails failed.0).told
  untold_rose number r old between route holds (inr (None, given, is)) =
      let law = tells old between r.«module» most_bytes (Gives None) given in
      subst (λ held. IsTold held r.«module» most_bytes (state old).faults (state between).faults (Gives None)) holds law.told
  untold_rose number r old between route holds (inr (Some bytes, given, is)) = absurd (never_unread number (program_of r.pages bytes) route (sym is))

  pub loads_untold : (first : ℕ) (routes : List Route) (old new : L) (route : ℕ) → (state old).held ≡ None → LoadsAll gave first routes old new (Err (NotRead route)) → Rose (state old).faults (state new).faults
  loads_untold first [] old new route holds loads = let bad = loads.0 in cc
  loads_untold first (r ∷ routes) old new route holds (between, Ok program, loads, (Ok programs, others, is)) = cc
  loads_untold first (r ∷ routes) old new route holds (between, Ok program, loads, (Err why, others, is)) =
      let kept = keeps first r old between (Ok program) loads in
      let same : why ≡ NotRead route = cc in
      rose_since (state old).faults (state between).faults (state new).faults kept.1
      (loads_untold (suc first) routes between new route (kept.0 ∙ holds) (subst (λ (w : Unloaded). LoadsAll gave (suc first) routes between new (Err w)) same others))
  loads_untold first (r ∷ routes) old new route holds (between, Err why, loads, (is, here)) =
      let same : why ≡ NotRead route = cc in
      subst (λ (lib : L). Rose (state old).faults (state lib).faults) (sym here)
      (untold_rose first r old between route holds (subst (λ (w : Unloaded). Loads gave first r old between (Err w)) same loads))
