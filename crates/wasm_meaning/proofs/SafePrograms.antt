-- The run of a program never gets stuck: its fresh state fits what typing knows, and each entry is typed.
use Rattle.std.proofs.Common.{◌≡◌, ℕ, zero, suc, ◌+◌, ◌-◌, ◌<◌, ◌≤◌, ◌==◌, Bool, true, false, cond, not, nat_lt, List, [], ◌∷◌, ◌++◌, length, map, take, drop, replicate, Option, Some, None, Ok, slice_get, refl, sym, ap, subst, ◌∙◌, option_and_then, option_map, option_to_list, arith}
use Rattle.std.proofs.lemmas.Bool.Decides.{nat_tests}
use Rattle.std.specs.List.{AllByRecursion, list_all, cons_option}
use Rattle.std.specs.Prelude.{unwrap_or}
use Rattle.wasm_ops.specs.Limits.{imported_functions}
use Rattle.wasm_ops.specs.Sequence.{Done}
use Rattle.wasm_ops.specs.WellFormed.{IsWellFormed}
use Rattle.wasm_ops.specs.declared.modules.ElementSegment.{ElementSegment}
use Rattle.wasm_ops.specs.declared.modules.Export.{Export}
use Rattle.wasm_ops.specs.declared.modules.GlobalDef.{GlobalDef}
use Rattle.wasm_ops.specs.declared.modules.Import.{Import}
use Rattle.wasm_ops.specs.declared.modules.ImportItem.{ImportItem}
use Rattle.wasm_ops.specs.declared.modules.ImportItem.TheVariants as item
use Rattle.wasm_ops.specs.declared.modules.Module.{Module}
use Rattle.wasm_ops.specs.declared.types.FuncType.{FuncType}
use Rattle.wasm_ops.specs.declared.types.ValType.{ValType}
use Rattle.wasm_ops.specs.declared.types.ValType.TheVariants.{I32}
use Rattle.wasm_meaning.specs.declared.blocks.GlobalType.{GlobalType}
use Rattle.wasm_meaning.specs.declared.links.LinkRule.TheVariants.{StartShape}
use Rattle.wasm_meaning.specs.declared.violations.Rule.TheVariants.{UnknownIndex, StartType, ConstantType}
use Rattle.wasm_meaning.specs.Control.{take_arguments}
use Rattle.wasm_meaning.specs.Execution.{walk, exec}
use Rattle.wasm_meaning.specs.Fitting.{AreOf, Falls, types_of, HasType, StoreFits}
use Rattle.wasm_meaning.specs.Linking.{first_refused, import_refusal, item_refusal, host_in, told_at, is_entry, entry_refusal, export_named, entry_name, link_refusal, first_elements}
use Rattle.wasm_meaning.specs.Pending.{Entering, entering, enter, close_entry, close, outward}
use Rattle.wasm_meaning.specs.Programs.{Program, IsProgram, defined, instance_of, first_global, laid, with_elements, first_table, fresh_store, fresh_state, body_number, start_body, entry_body, entries}
use Rattle.wasm_meaning.specs.Requests.{Request, Verdict, Replied, Exit, Trap, BudgetSpent, run_of, concluded, verdict}
use Rattle.wasm_meaning.specs.State.{Function, Instance, State, Outcome, Fell, Branched, Returned, Trapped, Exited, Spent, Stuck, Run, ends, after}
use Rattle.wasm_meaning.specs.Typing.{Context}
use Rattle.wasm_meaning.specs.TypingOperands.{start, same_type}
use Rattle.wasm_meaning.specs.Validity.{is_unknown, are_known, function_rule, global_rule, is_bare, entered_rule, start_rule, element_rule, imports_walk, functions_walk, tables_walk, memories_walk, globals_walk, exports_walk, start_walk, elements_walk, segments_walk, bodies_walk, outside_walk, module_walk}
use Rattle.wasm_meaning.specs.ValiditySpaces.{as_global, imported, functions, tables, globals, defined_global, function_type}
use Rattle.wasm_meaning.specs.Values.{Value, has_type}
use Rattle.wasm_meaning.proofs.Fits.{same_types_equal, has_value_of}
use Rattle.wasm_meaning.proofs.ModuleFacts.{At, get_at, get_defined, all_at, all_joined, all_taken, all_dropped, and_both, not_false, below_of, is_less, passes_both, each_keeps, keeps_rule, no_rule, none_of_all, not_told, first_is_fine, holds_unless, nothing_taken}
use Rattle.wasm_meaning.proofs.Ready.{InstanceFits, GoFits}
use Rattle.wasm_meaning.proofs.SafeInstances.{DefinedAt, defined_at, imports_link, imported_has_type, instance_fits}
use Rattle.wasm_meaning.proofs.SafeRuns.{RunFits, MayEnd, call_fits, exec_fits}

-- The walks of a valid module.

record Walks (m : Module) : Type 0 where
  globals_pass : globals_walk m ≡ Ok tt
  functions_pass : functions_walk m ≡ Ok tt
  start_passes : start_walk m ≡ Ok tt
  elements_pass : elements_walk m ≡ Ok tt

walks : (m : Module) → module_walk m ≡ Ok tt → Walks m
unfolding module_walk outside_walk
walks m valid =
    let outside = (passes_both (outside_walk m) (bodies_walk m ∷ []) valid).0 in
    let a = passes_both (imports_walk m) (functions_walk m ∷ tables_walk m ∷ memories_walk m ∷ globals_walk m ∷ exports_walk m ∷ start_walk m ∷ elements_walk m ∷ segments_walk m ∷ []) outside in
    let b = passes_both (functions_walk m) (tables_walk m ∷ memories_walk m ∷ globals_walk m ∷ exports_walk m ∷ start_walk m ∷ elements_walk m ∷ segments_walk m ∷ []) a.1 in
    let c = passes_both (tables_walk m) (memories_walk m ∷ globals_walk m ∷ exports_walk m ∷ start_walk m ∷ elements_walk m ∷ segments_walk m ∷ []) b.1 in
    let d = passes_both (memories_walk m) (globals_walk m ∷ exports_walk m ∷ start_walk m ∷ elements_walk m ∷ segments_walk m ∷ []) c.1 in
    let e = passes_both (globals_walk m) (exports_walk m ∷ start_walk m ∷ elements_walk m ∷ segments_walk m ∷ []) d.1 in
    let f = passes_both (exports_walk m) (start_walk m ∷ elements_walk m ∷ segments_walk m ∷ []) e.1 in
    let g = passes_both (start_walk m) (elements_walk m ∷ segments_walk m ∷ []) f.1 in
    let h = passes_both (elements_walk m) (segments_walk m ∷ []) g.1 in
    record { globals_pass = e.0; functions_pass = b.0; start_passes = g.0; elements_pass = h.0 }

-- Globals.

-- a module that links imports functions alone
no_globals : (types : List FuncType) (imports : List Import) (at : ℕ) → first_refused (import_refusal types) at imports ≡ None → imported as_global imports ≡ []
no_globals types [] at e = refl
no_globals types (import ∷ imports) at e =
    let both = first_is_fine (import_refusal types) at import imports e in
    ap (λ (o : Option GlobalType). cons_option o (imported as_global imports)) (none_here (host_in import.«module» import.name) import.item both.0)
    ∙ no_globals types imports (at + 1) both.1
  where
    none_here : (o : Option _) (i : ImportItem) → item_refusal types o i ≡ None → as_global i ≡ None
    none_here o (item.Function index) e = refl
    none_here o (item.Table limits) e = refl
    none_here o (item.Memory limits) e = refl
    none_here o (item.Global value mutable) e = let bad : ⊥ = cc in absurd bad

globals_are : (gs : List GlobalDef) → ((j : ℕ) (g : GlobalDef) → slice_get gs j ≡ Some g → same_type g.value g.first.value ≡ true) → AreOf (types_of (map defined_global gs)) (map first_global gs)
globals_are [] same = tt
globals_are (g ∷ gs) same =
    let equal = same_types_equal g.value g.first.value (same 0 g refl) in
    (subst (λ (t : ValType). has_type t (first_global g) ≡ true) (sym equal) (has_value_of g.first.value g.first.bits), globals_are gs (λ j h e. same (suc j) h e))

global_is_typed : (m : Module) → globals_walk m ≡ Ok tt → (j : ℕ) (g : GlobalDef) → slice_get m.globals j ≡ Some g → same_type g.value g.first.value ≡ true
unfolding globals_walk
global_is_typed m passes j g is =
    let k = each_keeps (λ before global. global_rule global) m.globals j g passes is in
    not_false (same_type g.value g.first.value) (keeps_rule (not (same_type g.value g.first.value)) ConstantType [] k.none).0

variables_fit : (m : Module) (pages : ℕ) → module_walk m ≡ Ok tt → link_refusal m pages ≡ None → AreOf (types_of (globals m)) (map first_global m.globals)
variables_fit m pages valid links =
    let none = no_globals m.types m.imports 0 (imports_link m pages links) in
    subst (λ (gs : List GlobalType). AreOf (types_of (gs ++ map defined_global m.globals)) (map first_global m.globals)) (sym none)
    (globals_are m.globals (global_is_typed m (walks m valid).globals_pass))

-- The table.

-- a place of the table is empty, or has a function of the module
abbrev IsElement : Module → Option ℕ → Type 0
IsElement m None = Unit {0}
IsElement m (Some index) = HasType m index

none_elements : (m : Module) (count : ℕ) → AllByRecursion (IsElement m) (replicate count None)
none_elements m zero = tt
none_elements m (suc count) = (tt, none_elements m count)

all_elements
    : (m : Module) (indices : List ℕ) → ((index : ℕ) → index < length (functions m) → HasType m index) → are_known (length (functions m)) indices ≡ true
    → AllByRecursion (IsElement m) (map (λ (index : ℕ). Some index) indices)
all_elements m [] has known = tt
all_elements m (index ∷ indices) has known =
    let both = and_both (nat_lt index (length (functions m))) (list_all (λ (i : ℕ). nat_lt i (length (functions m))) indices) known in
    (has index (is_less index (length (functions m)) both.0), all_elements m indices has both.1)

elements_laid
    : (m : Module) (table : List (Option ℕ)) (segments : List ElementSegment)
    → ((j : ℕ) (s : ElementSegment) → slice_get segments j ≡ Some s → AllByRecursion (IsElement m) (map (λ (index : ℕ). Some index) s.functions))
    → AllByRecursion (IsElement m) table → AllByRecursion (IsElement m) (with_elements table segments)
elements_laid m table [] each all = all
elements_laid m table (s ∷ segments) each all =
    let others = map (λ (index : ℕ). Some index) s.functions in
    elements_laid m (laid table s.offset.bits others) segments (λ j t e. each (suc j) t e)
    (all_joined (IsElement m) (take s.offset.bits table) (others ++ drop (s.offset.bits + length others) table)
    (all_taken (IsElement m) s.offset.bits table all)
    (all_joined (IsElement m) others (drop (s.offset.bits + length others) table) (each 0 s refl)
    (all_dropped (IsElement m) (s.offset.bits + length others) table all)))

element_is_known
    : (m : Module) → elements_walk m ≡ Ok tt → (j : ℕ) (s : ElementSegment) → slice_get m.elements j ≡ Some s → are_known (length (functions m)) s.functions ≡ true
unfolding elements_walk
element_is_known m passes j s is =
    let k = each_keeps (λ before element. element_rule (length (tables m)) (length (functions m)) element) m.elements j s passes is in
    let a = keeps_rule (is_unknown (length (tables m)) s.table) UnknownIndex ((not (same_type I32 s.offset.value), ConstantType) ∷ (not (are_known (length (functions m)) s.functions), UnknownIndex) ∷ []) k.none in
    let b = keeps_rule (not (same_type I32 s.offset.value)) ConstantType ((not (are_known (length (functions m)) s.functions), UnknownIndex) ∷ []) a.1 in
    not_false (are_known (length (functions m)) s.functions) (keeps_rule (not (are_known (length (functions m)) s.functions)) UnknownIndex [] b.1).0

-- each function has a type
type_is_known : (m : Module) → functions_walk m ≡ Ok tt → (j type : ℕ) → slice_get m.functions j ≡ Some type → type < length m.types
unfolding functions_walk
type_is_known m passes j type is =
    let k = each_keeps (λ before t. function_rule (length m.types) t) m.functions j type passes is in
    below_of (length m.types) type (keeps_rule (is_unknown (length m.types) type) UnknownIndex [] k.none).0

typed_at : (m : Module) (index type : ℕ) → slice_get (functions m) index ≡ Some type → type < length m.types → HasType m index
typed_at m index type is below =
    let t = get_at m.types type below in
    record { type = t.item; is = ap (λ (o : Option ℕ). option_and_then (slice_get m.types) o) is ∙ t.is }

function_has_type : (m : Module) (pages : ℕ) → module_walk m ≡ Ok tt → link_refusal m pages ≡ None → (index : ℕ) → index < length (functions m) → HasType m index
function_has_type m pages valid links index below = of_index (get_at (functions m) index below)
  where
    of_index : At (functions m) index → HasType m index
    of_index a = by (nat_lt index (imported_functions m.imports)) refl
      where
        by : (b : Bool) → nat_lt index (imported_functions m.imports) ≡ b → HasType m index
        by true e = imported_has_type m pages links index (is_less index (imported_functions m.imports) e)
        by false e =
            let le : imported_functions m.imports ≤ index = grind (arith, nat_tests) in
            let place : imported_functions m.imports + (index - imported_functions m.imports) ≡ index = omega (arith, le) in
            let own : slice_get m.functions (index - imported_functions m.imports) ≡ Some a.item
            = sym (get_defined m (index - imported_functions m.imports))
            ∙ ap (λ (k : ℕ). slice_get (functions m) k) place ∙ a.is in
            typed_at m index a.item a.is (type_is_known m (walks m valid).functions_pass (index - imported_functions m.imports) a.item own)

-- The fresh state.

-- outside of all functions
abbrev outside : Module → Context
outside m = record { whole = m; locals = []; targets = []; result = None; labels = [] }

store_fits : (program : Program) → IsProgram program → (body : List ℕ) → StoreFits program.linked (fresh_store program.linked body)
store_fits program is body =
    let m = program.linked in
    let all = elements_laid m (replicate (first_elements m) None) m.elements
    (λ j s e. all_elements m s.functions (function_has_type m program.pages is.valid is.links) (element_is_known m (walks m is.valid).elements_pass j s e))
    (none_elements m (first_elements m)) in
    record {
      variables = variables_fit m program.pages is.valid is.links;
      table = λ place index e. all_at (IsElement m) (first_table m) place (Some index) all e;
    }

-- Entries.

-- an entry is a function that takes and gives nothing
record EntryFits (m : Module) (j : ℕ) : Type 0 where
  at : DefinedAt m j (record { params = []; result = None })

record EntriesFit (m : Module) (js : List ℕ) : Type 0 where
  each : AllByRecursion (EntryFits m) js

bare_entry
    : (m : Module) → IsWellFormed m → module_walk m ≡ Ok tt → (index : ℕ) → function_type m index ≡ Some (record { params = []; result = None })
    → AllByRecursion (EntryFits m) (option_to_list (body_number m index))
bare_entry m formed valid index is = by (nat_lt index (imported_functions m.imports)) refl
  where
    by : (b : Bool) → nat_lt index (imported_functions m.imports) ≡ b → AllByRecursion (EntryFits m) (option_to_list (cond b None (Some (index - imported_functions m.imports))))
    by true e = tt
    by false e =
        let le : imported_functions m.imports ≤ index = grind (arith, nat_tests) in
        let place : imported_functions m.imports + (index - imported_functions m.imports) ≡ index = omega (arith, le) in
        (record { at = defined_at m formed valid (index - imported_functions m.imports) _ (ap (λ (k : ℕ). function_type m k) place ∙ is) }, tt)

start_is_fine : (m : Module) → start_walk m ≡ Ok tt → start_rule m m.start ≡ None
unfolding start_walk
start_is_fine m passes = no_rule 0 (start_rule m m.start) passes

start_fits : (m : Module) → IsWellFormed m → module_walk m ≡ Ok tt → AllByRecursion (EntryFits m) (option_to_list (start_body m))
start_fits m formed valid = by m.start (start_is_fine m (walks m valid).start_passes)
  where
    entered : (index : ℕ) (o : Option FuncType) → function_type m index ≡ o → entered_rule o ≡ None → AllByRecursion (EntryFits m) (option_to_list (body_number m index))
    entered index None is e = let bad : ⊥ = cc in absurd bad
    entered index (Some t) is e =
        let bare = not_false (is_bare t) (keeps_rule (not (is_bare t)) StartType [] e).0 in
        bare_entry m formed valid index (is ∙ ap (λ (u : FuncType). Some u) (nothing_taken t bare))

    by : (o : Option ℕ) → start_rule m o ≡ None → AllByRecursion (EntryFits m) (option_to_list (option_and_then (body_number m) o))
    by None e = tt
    by (Some index) e = entered index (function_type m index) refl e

entry_is_fine : (m : Module) (pages : ℕ) → link_refusal m pages ≡ None → entry_refusal m (export_named entry_name m.exports) ≡ None
unfolding link_refusal
entry_is_fine m pages links =
    let a = none_of_all (first_refused (import_refusal m.types) 0 m.imports) _ links in
    not_told 0 (entry_refusal m (export_named entry_name m.exports)) (none_of_all (told_at 0 (entry_refusal m (export_named entry_name m.exports))) _ a.1).0

entry_fits : (m : Module) (pages : ℕ) → IsWellFormed m → module_walk m ≡ Ok tt → link_refusal m pages ≡ None → AllByRecursion (EntryFits m) (option_to_list (entry_body m))
entry_fits m pages formed valid links = by (export_named entry_name m.exports) (entry_is_fine m pages links)
  where
    typed_entry : (index : ℕ) (o : Option FuncType) → function_type m index ≡ o → unwrap_or (option_map is_bare o) false ≡ true → AllByRecursion (EntryFits m) (option_to_list (body_number m index))
    typed_entry index None is e = let bad : ⊥ = cc in absurd bad
    typed_entry index (Some t) is e =
        bare_entry m formed valid index (is ∙ ap (λ (u : FuncType). Some u) (nothing_taken t e))

    by
        : (o : Option Export) → entry_refusal m o ≡ None
        → AllByRecursion (EntryFits m) (option_to_list (option_and_then (body_number m) (option_map (λ (export : Export). export.index) o)))
    by None e = let bad : ⊥ = cc in absurd bad
    by (Some export) e =
        let both = and_both (export.kind == 0) (unwrap_or (option_map is_bare (function_type m export.index)) false) (holds_unless StartShape (is_entry m export) e) in
        typed_entry export.index (function_type m export.index) refl both.1

entries_fit : (program : Program) → IsProgram program → AllByRecursion (EntryFits program.linked) (entries program.linked)
entries_fit program is =
    all_joined (EntryFits program.linked) (option_to_list (start_body program.linked)) (option_to_list (entry_body program.linked))
    (start_fits program.linked is.formed is.valid) (entry_fits program.linked program.pages is.formed is.valid is.links)

-- Whole runs.

-- between two entries: no operands, and a store that fits
abbrev BetweenFits : Module → Outcome → State → Type 0
BetweenFits m Fell st = GoFits (outside m) start st
BetweenFits m (Trapped why) st = Unit {0}
BetweenFits m (Exited code) st = Unit {0}
BetweenFits m Spent st = Unit {0}
BetweenFits m (Branched label) st = ⊥
BetweenFits m Returned st = ⊥
BetweenFits m Stuck st = ⊥

between_ends : (m : Module) → MayEnd (BetweenFits m)
between_ends m = record { trapped = λ why st. tt; exited = λ code st. tt; spent = λ st. tt }

no_operands : (vs : List Value) → Falls start vs → vs ≡ []
no_operands [] falls = refl
no_operands (v ∷ vs) falls = absurd falls.1

module _ (m : Module) (inst : Instance) (fits : InstanceFits m inst) (same : inst.defined ≡ defined m) (bound : ℕ) where
  -- an entry is called and comes back
  entered_fits
      : (j : ℕ) → EntryFits m j → (st : State) (left : ℕ) → GoFits (outside m) start st
      → RunFits (BetweenFits m) (enter (exec inst bound) (slice_get inst.defined j) (ends Fell) st left)
  entered_fits j entry st left go =
      let d = entry.at in
      let f = d.function in
      let is : slice_get inst.defined j ≡ Some f = ap (λ (fs : List Function). slice_get fs j) same ∙ d.is in
      let none = no_operands st.operands go.falls in
      subst (λ (o : Option Function). RunFits (BetweenFits m) (enter (exec inst bound) o (ends Fell) st left)) (sym is)
      (call_fits (BetweenFits m) (between_ends m) inst (exec inst bound) (exec_fits inst bound) (outside m) fits (record { params = []; result = None }) f d.fits
      (record { arguments = []; under = st.operands }) (ends Fell) st left
      (ap (λ (ts : List ValType). take_arguments ts st.operands) d.fits.params_are)
      (subst (λ (ts : List ValType). AreOf ts []) (sym d.fits.params_are) tt)
      (record {
        from = λ st' values l are ready. record {
          holds = record {
            falls = subst (λ (vs : List Value). Falls start (vs ++ st.operands)) (sym (nothing_given values (subst (λ (t : Option ValType). AreOf (option_to_list t) values) d.fits.result_is are))) go.falls;
            ready = record { frame = go.ready.frame; store = ready.store };
          };
        };
      })
      go.ready)
    where
      nothing_given : (values : List Value) → AreOf [] values → values ≡ []
      nothing_given [] are = refl
      nothing_given (v ∷ vs) are = absurd are

  entry_behind
      : (j : ℕ) → EntryFits m j → (o : Outcome) (st : State) (left : ℕ) → BetweenFits m o st
      → RunFits (BetweenFits m) (close_entry inst (exec inst bound) j (walk inst (exec inst bound) Done) o st left)
  entry_behind j entry Fell st left go = let r = entered_fits j entry st left go in record { holds = r.holds }
  entry_behind j entry (Branched label) st left go = absurd go
  entry_behind j entry Returned st left go = absurd go
  entry_behind j entry (Trapped why) st left go = record { holds = tt }
  entry_behind j entry (Exited code) st left go = record { holds = tt }
  entry_behind j entry Spent st left go = record { holds = tt }
  entry_behind j entry Stuck st left go = absurd go

  outward_fits
      : (js : List ℕ) → AllByRecursion (EntryFits m) js → (r : Run) → RunFits (BetweenFits m) r
      → RunFits (BetweenFits m) (outward inst (exec inst bound) (walk inst (exec inst bound)) (entering js) r)
  outward_fits [] all r fits_here = fits_here
  outward_fits (j ∷ js) all r fits_here =
      let next = entry_behind j all.0 r.outcome r.state r.left fits_here.holds in
      outward_fits js all.1 (after r (close inst (exec inst bound) (walk inst (exec inst bound)) (Entering j))) (record { holds = next.holds })

run_fits : (request : Request) → IsProgram request.program → RunFits (BetweenFits request.program.linked) (run_of request)
run_fits request is =
    let m = request.program.linked in
    let inst = instance_of request.program in
    outward_fits m inst (instance_fits request.program is) refl request.budget (entries m) (entries_fit request.program is)
    (ends Fell (fresh_state m request.body) request.budget)
    (record {
      holds = record {
        falls = (refl, tt);
        ready = record { frame = record { locals = tt; targets = refl }; store = store_fits request.program is request.body };
      };
    })

-- the verdict of a request to a program exists
pub verdict_is : (request : Request) → IsProgram request.program → (v : Verdict) × (verdict request ≡ Some v)
verdict_is request is = by (run_of request).outcome (run_of request).state (run_fits request is).holds
  where
    by
        : (o : Outcome) (st : State) → BetweenFits request.program.linked o st
        → (v : Verdict) × (concluded o st.store.streams.reply ≡ Some v)
    by Fell st h = (Replied st.store.streams.reply, refl)
    by (Branched label) st h = absurd h
    by Returned st h = absurd h
    by (Trapped why) st h = (Trap why, refl)
    by (Exited code) st h = (Exit code st.store.streams.reply, refl)
    by Spent st h = (BudgetSpent, refl)
    by Stuck st h = absurd h

pub never_stuck : (request : Request) → IsProgram request.program → (run_of request).outcome ≡ Stuck → ⊥
never_stuck request is stuck =
    let h = (run_fits request is).holds in
    none (run_of request).outcome (run_of request).state h stuck
  where
    none : (o : Outcome) (st : State) → BetweenFits request.program.linked o st → o ≡ Stuck → ⊥
    none Fell st h e = cc
    none (Branched label) st h e = absurd h
    none Returned st h e = absurd h
    none (Trapped why) st h e = cc
    none (Exited code) st h e = cc
    none Spent st h e = cc
    none Stuck st h e = absurd h
