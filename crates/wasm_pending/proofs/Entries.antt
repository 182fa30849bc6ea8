-- The entries of a program are functions of its own that take and give nothing.
use Rattle.std.proofs.Common.{◌≡◌, ℕ, ◌+◌, ◌-◌, ◌≤◌, ◌==◌, Bool, true, false, cond, not, nat_lt, List, [], ◌∷◌, ◌++◌, Option, Some, None, Ok, refl, ap, ◌∙◌, option_and_then, option_map, option_to_list, arith}
use Rattle.std.proofs.lemmas.Bool.Decides.{nat_tests}
use Rattle.std.specs.Prelude.{unwrap_or}
use Rattle.wasm_ops.specs.Limits.{imported_functions}
use Rattle.wasm_ops.specs.WellFormed.{IsWellFormed}
use Rattle.wasm_ops.specs.declared.modules.Export.{Export}
use Rattle.wasm_ops.specs.declared.modules.Module.{Module}
use Rattle.wasm_ops.specs.declared.types.FuncType.{FuncType}
use Rattle.wasm_meaning.specs.declared.links.LinkRule.TheVariants.{StartShape}
use Rattle.wasm_meaning.specs.declared.violations.Rule.TheVariants.{StartType}
use Rattle.wasm_meaning.specs.Linking.{first_refused, import_refusal, told_at, is_entry, entry_refusal, export_named, entry_name, link_refusal}
use Rattle.wasm_meaning.specs.Pending.{entering}
use Rattle.wasm_meaning.specs.Programs.{Program, IsProgram, body_number, start_body, entry_body, entries}
use Rattle.wasm_meaning.specs.Validity.{is_bare, entered_rule, start_rule, imports_walk, functions_walk, tables_walk, memories_walk, globals_walk, exports_walk, start_walk, elements_walk, segments_walk, bodies_walk, outside_walk, module_walk}
use Rattle.wasm_meaning.specs.ValiditySpaces.{function_type}
use Rattle.wasm_meaning.proofs.ModuleFacts.{and_both, not_false, passes_both, keeps_rule, no_rule, none_of_all, not_told, holds_unless, nothing_taken}
use Rattle.wasm_meaning.proofs.SafeInstances.{defined_at}
use Rattle.wasm_pending.specs.Typed.{OnlyEntries}

-- The walks of a valid module.

pub record Walks (m : Module) : Type 0 where
  pub functions_pass : functions_walk m ≡ Ok tt
  pub memories_pass : memories_walk m ≡ Ok tt
  pub globals_pass : globals_walk m ≡ Ok tt
  pub start_passes : start_walk m ≡ Ok tt
  pub elements_pass : elements_walk m ≡ Ok tt

pub walks : (m : Module) → module_walk m ≡ Ok tt → Walks m
unfolding module_walk outside_walk
walks m valid =
    let outside = (passes_both (outside_walk m) (bodies_walk m ∷ []) valid).0 in
    let a = passes_both (imports_walk m) (functions_walk m ∷ tables_walk m ∷ memories_walk m ∷ globals_walk m ∷ exports_walk m ∷ start_walk m ∷ elements_walk m ∷ segments_walk m ∷ []) outside in
    let b = passes_both (functions_walk m) (tables_walk m ∷ memories_walk m ∷ globals_walk m ∷ exports_walk m ∷ start_walk m ∷ elements_walk m ∷ segments_walk m ∷ []) a.1 in
    let c = passes_both (tables_walk m) (memories_walk m ∷ globals_walk m ∷ exports_walk m ∷ start_walk m ∷ elements_walk m ∷ segments_walk m ∷ []) b.1 in
    let d = passes_both (memories_walk m) (globals_walk m ∷ exports_walk m ∷ start_walk m ∷ elements_walk m ∷ segments_walk m ∷ []) c.1 in
    let e = passes_both (globals_walk m) (exports_walk m ∷ start_walk m ∷ elements_walk m ∷ segments_walk m ∷ []) d.1 in
    let f = passes_both (exports_walk m) (start_walk m ∷ elements_walk m ∷ segments_walk m ∷ []) e.1 in
    let g = passes_both (start_walk m) (elements_walk m ∷ segments_walk m ∷ []) f.1 in
    let h = passes_both (elements_walk m) (segments_walk m ∷ []) g.1 in
    record { functions_pass = b.0; memories_pass = d.0; globals_pass = e.0; start_passes = g.0; elements_pass = h.0 }

-- Entries.

abbrev bare : FuncType
bare = record { params = []; result = None }

bare_entry
    : (m : Module) → IsWellFormed m → module_walk m ≡ Ok tt → (index : ℕ) → function_type m index ≡ Some bare
    → OnlyEntries m (entering (option_to_list (body_number m index)))
bare_entry m formed valid index is = by (nat_lt index (imported_functions m.imports)) refl
  where
    by : (b : Bool) → nat_lt index (imported_functions m.imports) ≡ b → OnlyEntries m (entering (option_to_list (cond b None (Some (index - imported_functions m.imports)))))
    by true e = tt
    by false e =
        let le : imported_functions m.imports ≤ index = grind (arith, nat_tests) in
        let place : imported_functions m.imports + (index - imported_functions m.imports) ≡ index = omega (arith, le) in
        let d = defined_at m formed valid (index - imported_functions m.imports) bare (ap (λ (k : ℕ). function_type m k) place ∙ is) in
        (record { runs = d.function; is = d.is; no_params = d.fits.params_are; no_result = d.fits.result_is }, tt)

start_is_fine : (m : Module) → start_walk m ≡ Ok tt → start_rule m m.start ≡ None
unfolding start_walk
start_is_fine m passes = no_rule 0 (start_rule m m.start) passes

start_enters : (m : Module) → IsWellFormed m → module_walk m ≡ Ok tt → OnlyEntries m (entering (option_to_list (start_body m)))
start_enters m formed valid = by m.start (start_is_fine m (walks m valid).start_passes)
  where
    entered : (index : ℕ) (o : Option FuncType) → function_type m index ≡ o → entered_rule o ≡ None → OnlyEntries m (entering (option_to_list (body_number m index)))
    entered index None is e = let bad : ⊥ = cc in absurd bad
    entered index (Some t) is e =
        let takes_none = not_false (is_bare t) (keeps_rule (not (is_bare t)) StartType [] e).0 in
        bare_entry m formed valid index (is ∙ ap (λ (u : FuncType). Some u) (nothing_taken t takes_none))

    by : (o : Option ℕ) → start_rule m o ≡ None → OnlyEntries m (entering (option_to_list (option_and_then (body_number m) o)))
    by None e = tt
    by (Some index) e = entered index (function_type m index) refl e

entry_is_fine : (m : Module) (pages : ℕ) → link_refusal m pages ≡ None → entry_refusal m (export_named entry_name m.exports) ≡ None
unfolding link_refusal
entry_is_fine m pages links =
    let a = none_of_all (first_refused (import_refusal m.types) 0 m.imports) _ links in
    not_told 0 (entry_refusal m (export_named entry_name m.exports)) (none_of_all (told_at 0 (entry_refusal m (export_named entry_name m.exports))) _ a.1).0

main_enters : (m : Module) (pages : ℕ) → IsWellFormed m → module_walk m ≡ Ok tt → link_refusal m pages ≡ None → OnlyEntries m (entering (option_to_list (entry_body m)))
main_enters m pages formed valid links = by (export_named entry_name m.exports) (entry_is_fine m pages links)
  where
    typed_entry : (index : ℕ) (o : Option FuncType) → function_type m index ≡ o → unwrap_or (option_map is_bare o) false ≡ true → OnlyEntries m (entering (option_to_list (body_number m index)))
    typed_entry index None is e = let bad : ⊥ = cc in absurd bad
    typed_entry index (Some t) is e =
        bare_entry m formed valid index (is ∙ ap (λ (u : FuncType). Some u) (nothing_taken t e))

    by
        : (o : Option Export) → entry_refusal m o ≡ None
        → OnlyEntries m (entering (option_to_list (option_and_then (body_number m) (option_map (λ (export : Export). export.index) o))))
    by None e = let bad : ⊥ = cc in absurd bad
    by (Some export) e =
        let both = and_both (export.kind == 0) (unwrap_or (option_map is_bare (function_type m export.index)) false) (holds_unless StartShape (is_entry m export) e) in
        typed_entry export.index (function_type m export.index) refl both.1

both_enter : (m : Module) (first others : List ℕ) → OnlyEntries m (entering first) → OnlyEntries m (entering others) → OnlyEntries m (entering (first ++ others))
both_enter m [] others a b = b
both_enter m (j ∷ first) others a b = (a.0, both_enter m first others a.1 b)

pub entries_enter : (program : Program) → IsProgram program → OnlyEntries program.linked (entering (entries program.linked))
entries_enter program is =
    both_enter program.linked (option_to_list (start_body program.linked)) (option_to_list (entry_body program.linked))
    (start_enters program.linked is.formed is.valid) (main_enters program.linked program.pages is.formed is.valid is.links)
