-- What is made of a file's bytes, where they spell a module that is accepted or breaks a rule.
use Rattle.std.proofs.Common.{◌≡◌, ◌↔◌, ℕ, List, Option, Result, Ok, Err, inl, inr, refl, sym, ap, ◌∙◌}
use Rattle.wasm_ops.specs.declared.modules.Module.{Module}
use Rattle.wasm_reader.proofs.ModuleLaws.{either}
use Rattle.wasm_reader.specs.Modules.{SpellsModule}
use Rattle.wasm_meaning.specs.LinkRules.{link_number}
use Rattle.wasm_meaning.specs.Programs.{Program, link, linked_or}
use Rattle.wasm_meaning.specs.Validity.{module_walk}
use Rattle.wasm_meaning.specs.ValidityChecks.{Check}
use Rattle.wasm_meaning.specs.declared.links.Unlinked.{Unlinked}
use Rattle.wasm_meaning.specs.declared.violations.Broken.{Broken}
use Rattle.module_files.specs.Accepted.{IsAccepted, IsInvalid, IsUnlinked}
use Rattle.module_files.specs.FilePrograms.{linked, program_of, validated}
use Rattle.module_files.proofs.Programs.{made_of_refused, made_of_spelt}

accepted_made : (pages : ℕ) (bytes : List ℕ) (program : Program) → IsAccepted pages bytes program → program_of pages bytes ≡ Ok program
accepted_made pages bytes program a =
    made_of_spelt pages bytes a.parts a.spelt ∙ ap (λ (c : Check). validated pages a.parts c) a.valid ∙ ap (λ (r : Result Program Unlinked). linked r) a.links

pub invalid_made : (pages : ℕ) (bytes : List ℕ) (broken : Broken) → IsInvalid bytes broken
    → program_of pages bytes ≡ Err (record { number = broken.number; place = broken.item })
invalid_made pages bytes broken n = made_of_spelt pages bytes n.parts n.spelt ∙ ap (λ (c : Check). validated pages n.parts c) n.broken_first

pub unlinked_made : (pages : ℕ) (bytes : List ℕ) (why : Unlinked) → IsUnlinked pages bytes why
    → program_of pages bytes ≡ Err (record { number = link_number why.rule; place = why.item })
unlinked_made pages bytes why n =
    made_of_spelt pages bytes n.parts n.spelt ∙ ap (λ (c : Check). validated pages n.parts c) n.valid
    ∙ ap (λ (o : Option Unlinked). linked (linked_or (record { linked = n.parts; pages = pages }) o)) n.refused_first

made_accepted : (pages : ℕ) (bytes : List ℕ) (program : Program) → program_of pages bytes ≡ Ok program → IsAccepted pages bytes program
made_accepted pages bytes program made = elim (either bytes) [
  | inl spelt ↦ by_check spelt.0 spelt.1 (module_walk spelt.0) refl (sym (made_of_spelt pages bytes spelt.0 spelt.1) ∙ made)
  | inr refused ↦ (let told = made_of_refused pages bytes refused.0 refused.1 in cc)
]
  where
    by_links : (parts : Module) → SpellsModule bytes parts → module_walk parts ≡ Ok tt → (found : Result Program Unlinked) → link parts pages ≡ found
        → linked found ≡ Ok program → IsAccepted pages bytes program
    by_links parts s v (Ok other) l is =
        let same : other ≡ program = cc in record { parts = parts; spelt = s; valid = v; links = l ∙ ap (λ (p : Program). Ok p) same }
    by_links parts s v (Err why) l is = cc

    by_check : (parts : Module) → SpellsModule bytes parts → (check : Check) → module_walk parts ≡ check → validated pages parts check ≡ Ok program
        → IsAccepted pages bytes program
    by_check parts s (Ok passed) v is = by_links parts s v (link parts pages) refl is
    by_check parts s (Err broken) v is = cc

pub accepted_or_not : (pages : ℕ) (bytes : List ℕ) (program : Program) → program_of pages bytes ≡ Ok program ↔ IsAccepted pages bytes program
accepted_or_not pages bytes program = (made_accepted pages bytes program, accepted_made pages bytes program)
