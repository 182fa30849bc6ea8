-- A program that is loaded has the pages of its route.
use Rattle.std.proofs.Common.{◌≡◌, ℕ, suc, List, [], ◌∷◌, Option, None, Some, Result, Ok, Err, refl}
use Rattle.std.specs.Prelude.{map}
use Rattle.outside.specs.Library.{Files}
use Rattle.wasm_meaning.specs.Programs.{Program}
use Rattle.serve_config.specs.declared.tenants.Route.{Route}
use Rattle.serve_config.specs.Loading.{Unloaded, follow, fit, from_answer, loaded, with_first}
use Rattle.module_files.specs.FilePrograms.{Unfit, program_of}
use Rattle.module_files.proofs.Programs.{made_pages}

-- what is loaded for these routes has their pages
abbrev HaveTheirs : List Route → Result (List Program) Unloaded → Type 0
HaveTheirs routes (Ok programs) = map (λ p. p.pages) programs ≡ map (λ r. r.pages) routes
HaveTheirs routes (Err why) = Unit {0}

one_more : (r : Route) (routes : List Route) (program : Program) (rest : Result (List Program) Unloaded)
    → program.pages ≡ r.pages → HaveTheirs routes rest → HaveTheirs (r ∷ routes) (with_first program rest)
one_more r routes program (Ok programs) has have = λ i. has i ∷ have i
one_more r routes program (Err why) has have = tt

go_on : (number : ℕ) (r : Route) (routes : List Route) (bytes : List ℕ) (made : Result Program Unfit) (rest : Result (List Program) Unloaded)
    → program_of r.pages bytes ≡ made → HaveTheirs routes rest → HaveTheirs (r ∷ routes) (follow (fit number made) rest)
go_on number r routes bytes (Ok program) rest is have = one_more r routes program rest (made_pages r.pages bytes program is) have
go_on number r routes bytes (Err why) rest is have = tt

from : (number : ℕ) (r : Route) (routes : List Route) (answer : Option (List ℕ)) (rest : Result (List Program) Unloaded)
    → HaveTheirs routes rest → HaveTheirs (r ∷ routes) (follow (from_answer number r answer) rest)
from number r routes None rest have = tt
from number r routes (Some bytes) rest have = go_on number r routes bytes (program_of r.pages bytes) rest refl have

all : (files : Files) (number : ℕ) (routes : List Route) → HaveTheirs routes (loaded files number routes)
all files number [] = refl
all files number (r ∷ routes) = from number r routes (files r.«module») (loaded files (suc number) routes) (all files (suc number) routes)

told : (routes : List Route) (result : Result (List Program) Unloaded) (programs : List Program) → HaveTheirs routes result → result ≡ Ok programs
    → map (λ p. p.pages) programs ≡ map (λ r. r.pages) routes
told routes (Ok others) programs have is = cc
told routes (Err why) programs have is = cc

pub have_pages : (files : Files) (number : ℕ) (routes : List Route) (programs : List Program) → loaded files number routes ≡ Ok programs
    → map (λ (p : Program). p.pages) programs ≡ map (λ (r : Route). r.pages) routes
have_pages files number routes programs is = told routes (loaded files number routes) programs (all files number routes) is
