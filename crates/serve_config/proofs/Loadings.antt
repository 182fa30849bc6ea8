-- The programs so far, and those that are still to be loaded.
use Rattle.std.proofs.Common.{◌≡◌, ℕ, zero, suc, ◌+◌, ◌<◌, ◌≤◌, List, [], ◌∷◌, ◌++◌, length, drop, Some, Result, Ok, Err, refl, ap, sym, subst, add-one, append-nil, append_assoc}
use Rattle.std.specs.Prelude.{slice_get}
use Rattle.std.proofs.Math.ListN.{drop_of_length-le}
use Rattle.std.specs.Arc.{arc_value}
use Rattle.std.specs.declared.alloc.Global.{Global}
use Rattle.std.specs.declared.sync.Arc.{Arc}
use Rattle.outside.specs.Library.{Fetched}
use Rattle.wasm_meaning.specs.Programs.{Program}
use Rattle.serve_config.specs.declared.tenants.Route.{Route}
use Rattle.serve_config.specs.declared.load_faults.LoadFault.{LoadFault}
use Rattle.serve_config.specs.declared.load_faults.LoadFault.TheVariants.{Read, Module, NoMemory}
use Rattle.serve_config.specs.Loading.{Unloaded, NotRead, IsUnfit, Loads, LoadsAll, with_first}
use Rattle.serve_config.specs.Loaded.{IsLoaded, IsOf, IsAmong, programs_in}

-- the number is that of one of these routes
pub among : (routes : List Route) (number : ℕ) (fault : LoadFault) → number < length routes → IsOf number fault → IsAmong routes fault
among routes number (Read route) lt is = rw is lt
among routes number (Module route refusal place) lt is = rw is lt
among routes number NoMemory lt is = tt

-- one shared program more
pub programs_more : (shared : List (Arc Program Global)) (one : Arc Program Global) → programs_in (shared ++ one ∷ []) ≡ programs_in shared ++ arc_value one ∷ []
programs_more [] one = refl
programs_more (s ∷ shared) one = ap (λ (ps : List Program). arc_value s ∷ ps) (programs_more shared one)

-- programs in front of others
abbrev pub with_all : List Program → Result (List Program) Unloaded → Result (List Program) Unloaded
with_all programs (Ok others) = Ok (programs ++ others)
with_all programs (Err why) = Err why

pub all_none : (rest : Result (List Program) Unloaded) → with_all [] rest ≡ rest
all_none (Ok others) = refl
all_none (Err why) = refl

pub all_first : (programs : List Program) (program : Program) (rest : Result (List Program) Unloaded)
    → with_all programs (with_first program rest) ≡ with_all (programs ++ program ∷ []) rest
all_first programs program (Ok others) = ap (λ (ps : List Program). Ok ps) (sym (append_assoc programs (program ∷ []) others))
all_first programs program (Err why) = refl

pub drop_next : (routes : List Route) (number : ℕ) (r : Route) → slice_get routes number ≡ Some r → drop number routes ≡ r ∷ drop (suc number) routes
drop_next [] number r is = cc
drop_next (s ∷ routes) zero r is = let same : s ≡ r = cc in ap (λ (q : Route). q ∷ routes) same
drop_next (s ∷ routes) (suc number) r is = drop_next routes number r is

module _ {L : Type 0} (gave : L → L → List ℕ → ℕ → Fetched → Type 0) (routes : List Route) (old : L) where
  -- whatever comes of the routes from this number on, it comes of all with the programs so far in front
  pub record Onward (number : ℕ) (now : L) (programs : List Program) : Type 0 where
    pub onward : (new : L) (rest : Result (List Program) Unloaded) → LoadsAll gave number (drop number routes) now new rest → LoadsAll gave 0 routes old new (with_all programs rest)

  pub onward_begins : Onward 0 old []
  onward_begins = record { onward = λ new rest h. subst (λ (all : Result (List Program) Unloaded). LoadsAll gave 0 routes old new all) (sym (all_none rest)) h }

  pub onward_goes : (number : ℕ) (r : Route) (now next : L) (programs : List Program) (program : Program) → slice_get routes number ≡ Some r → Onward number now programs
      → Loads gave number r now next (Ok program) → Onward (number + 1) next (programs ++ program ∷ [])
  onward_goes number r now next programs program is so_far loads = record {
    onward = λ new rest h.
        subst (λ (all : Result (List Program) Unloaded). LoadsAll gave 0 routes old new all) (all_first programs program rest)
        (so_far.onward new (with_first program rest)
        (subst (λ (rs : List Route). LoadsAll gave number rs now new (with_first program rest)) (sym (drop_next routes number r is))
        (next, Ok program, loads, (rest, subst (λ (n : ℕ). LoadsAll gave n (drop n routes) next new rest) (add-one number) h, refl))));
  }

  pub onward_stops : (number : ℕ) (r : Route) (now next : L) (programs : List Program) (why : Unloaded) → slice_get routes number ≡ Some r → Onward number now programs
      → Loads gave number r now next (Err why) → LoadsAll gave 0 routes old next (Err why)
  onward_stops number r now next programs why is so_far loads =
      so_far.onward next (Err why)
      (subst (λ (rs : List Route). LoadsAll gave number rs now next (Err why)) (sym (drop_next routes number r is)) (next, Err why, loads, (refl, refl)))

  pub onward_ends : (number : ℕ) (now : L) (programs : List Program) → length routes ≤ number → Onward number now programs → LoadsAll gave 0 routes old now (Ok programs)
  onward_ends number now programs all so_far =
      subst (λ (ps : List Program). LoadsAll gave 0 routes old now (Ok ps)) (append-nil programs)
      (so_far.onward now (Ok [])
      (subst (λ (rs : List Route). LoadsAll gave number rs now now (Ok [])) (sym (drop_of_length-le routes all)) (refl, refl)))

  -- the fault of one file is that of all
  pub onward_fails : {A C : Type 0} (one : A → Program) (all : C → List Program) (number : ℕ) (r : Route) (now next : L) (programs : List Program) (fault : LoadFault)
      → slice_get routes number ≡ Some r → Onward number now programs
      → IsLoaded {A = A} {B = Program} one (Err fault) (Loads gave number r now next) → IsLoaded {A = C} {B = List Program} all (Err fault) (LoadsAll gave 0 routes old next)
  onward_fails one all number r now next programs (Read route) is so_far loads = onward_stops number r now next programs (NotRead route) is so_far loads
  onward_fails one all number r now next programs (Module route refusal place) is so_far loads = onward_stops number r now next programs (IsUnfit route refusal place) is so_far loads
  onward_fails one all number r now next programs NoMemory is so_far loads = tt
