-- What is made of a file's bytes, by what they spell.
use Rattle.std.proofs.Common.{◌≡◌, ℕ, ◌+◌, ◌<◌, ◌≤◌, Bool, true, false, nat_lt, min, cond, List, length, take, Option, None, Some, Result, Ok, Err, inl, inr, refl, sym, ap, subst, ◌∙◌, arith}
use Rattle.std.specs.Prelude.{IfOk}
use Rattle.std.proofs.lemmas.Bool.Decides.{nat_tests}
use Rattle.std.proofs.lemmas.List.{length-take, take_all}
use Rattle.wasm_ops.specs.declared.faults.Fault.{Fault}
use Rattle.wasm_ops.specs.declared.modules.Module.{Module}
use Rattle.wasm_code.specs.Bodies.{beginning}
use Rattle.wasm_code.specs.Reading.{Read}
use Rattle.wasm_reader.proofs.ModuleLaws.{whole_module_decided}
use Rattle.wasm_reader.specs.Modules.{RefusesModule, SpellsModule, most_bytes, whole_module}
use Rattle.wasm_meaning.specs.Linking.{link_refusal}
use Rattle.wasm_meaning.specs.Programs.{Program, linked_or}
use Rattle.wasm_meaning.specs.Validity.{module_walk}
use Rattle.wasm_meaning.specs.ValidityChecks.{Check}
use Rattle.wasm_meaning.specs.declared.links.Unlinked.{Unlinked}
use Rattle.module_files.specs.declared.faults.Unmade.{Unmade}
use Rattle.module_files.specs.Made.{IsMade}
use Rattle.module_files.specs.FilePrograms.{Unfit, program_of, linked, module_read, validated}

pub is_long : (most n : ℕ) → most < n → nat_lt most n ≡ true
is_long most n h = grind (arith, nat_tests)

pub is_short : (most n : ℕ) → n ≤ most → nat_lt most n ≡ false
is_short most n h = grind (arith, nat_tests)

abbrev unless_long : (pages : ℕ) → List ℕ → Bool → Result Program Unfit
unless_long pages bytes b = cond b (Err (record { number = 21; place = 0 })) (module_read pages (whole_module.read (beginning bytes)))

pub made_of_spelt : (pages : ℕ) (bytes : List ℕ) (parts : Module) → SpellsModule bytes parts → program_of pages bytes ≡ validated pages parts (module_walk parts)
unfolding program_of
made_of_spelt pages bytes parts s =
    ap (unless_long pages bytes) (is_short most_bytes (length bytes) s.small)
    ∙ ap (module_read pages) ((whole_module_decided.decides (beginning bytes)).only parts s.after s.spelt)

pub made_of_refused : (pages : ℕ) (bytes : List ℕ) (fault : Fault) → RefusesModule bytes fault → program_of pages bytes ≡ Err (record { number = fault.number; place = fault.place })
unfolding program_of
made_of_refused pages bytes fault (inl many) =
    ap (unless_long pages bytes) (is_long most_bytes (length bytes) many.large)
    ∙ ap (λ (f : Fault). Err (record { number = f.number; place = f.place })) (sym many.told)
made_of_refused pages bytes fault (inr item) =
    ap (unless_long pages bytes) (is_short most_bytes (length bytes) item.small)
    ∙ ap (module_read pages) ((whole_module_decided.decides (beginning bytes)).only_refused fault item.refused)

-- One byte more than a file may have does for all of it.

more_is_long : (most n : ℕ) → nat_lt most (min (most + 1) n) ≡ nat_lt most n
more_is_long most n = grind (arith, nat_tests)

fits : (most n : ℕ) → nat_lt most n ≡ false → n ≤ most + 1
fits most n short = grind (arith, nat_tests)

too_long : (pages : ℕ) (bytes : List ℕ) → nat_lt most_bytes (length bytes) ≡ true → program_of pages bytes ≡ Err (record { number = 21; place = 0 })
unfolding program_of
too_long pages bytes long = ap (unless_long pages bytes) long

pub program_front : (pages : ℕ) (whole : List ℕ) → program_of pages (take (most_bytes + 1) whole) ≡ program_of pages whole
program_front pages whole = at (nat_lt most_bytes (length whole)) refl
  where
    same_test : nat_lt most_bytes (length (take (most_bytes + 1) whole)) ≡ nat_lt most_bytes (length whole)
    same_test = ap (nat_lt most_bytes) (length-take (most_bytes + 1) whole) ∙ more_is_long most_bytes (length whole)

    at : (b : Bool) → nat_lt most_bytes (length whole) ≡ b → program_of pages (take (most_bytes + 1) whole) ≡ program_of pages whole
    at true long = too_long pages (take (most_bytes + 1) whole) (same_test ∙ long) ∙ sym (too_long pages whole long)
    at false short = ap (program_of pages) (take_all (most_bytes + 1) whole (fits most_bytes (length whole) short))

-- Where there is a program, it has so many pages.

abbrev HasPages : (pages : ℕ) → Result Program Unfit → Type 0
HasPages pages (Ok program) = program.pages ≡ pages
HasPages pages (Err why) = Unit {0}

link_pages : (pages : ℕ) (parts : Module) (refusal : Option Unlinked) → HasPages pages (linked (linked_or (record { linked = parts; pages = pages }) refusal))
link_pages pages parts None = refl
link_pages pages parts (Some why) = tt

check_pages : (pages : ℕ) (parts : Module) (check : Check) → HasPages pages (validated pages parts check)
check_pages pages parts (Ok passed) = link_pages pages parts (link_refusal parts pages)
check_pages pages parts (Err broken) = tt

read_pages : (pages : ℕ) (read : Read Module) → HasPages pages (module_read pages read)
read_pages pages (Ok read) = check_pages pages read.0 (module_walk read.0)
read_pages pages (Err fault) = tt

size_pages : (pages : ℕ) (bytes : List ℕ) (long : Bool) → HasPages pages (unless_long pages bytes long)
size_pages pages bytes true = tt
size_pages pages bytes false = read_pages pages (whole_module.read (beginning bytes))

bytes_pages : (pages : ℕ) (bytes : List ℕ) → HasPages pages (program_of pages bytes)
unfolding program_of
bytes_pages pages bytes = size_pages pages bytes (nat_lt most_bytes (length bytes))

pub made_pages : (pages : ℕ) (bytes : List ℕ) (program : Program) → program_of pages bytes ≡ Ok program → program.pages ≡ pages
made_pages pages bytes program is = subst (HasPages pages) is (bytes_pages pages bytes)

pub have_pages : (pages : ℕ) (bytes : List ℕ) (result : Result Program Unmade) → IsMade result (program_of pages bytes) → IfOk result (λ program. program.pages ≡ pages)
have_pages pages bytes (Ok program) made = made_pages pages bytes program made
have_pages pages bytes (Err why) made = tt
