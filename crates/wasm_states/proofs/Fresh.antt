-- A vessel as the program finds it has the whole program before it.
use Rattle.std.proofs.Common.{◌≡◌, ℕ, ◌+◌, ◌-◌, ◌≤◌, inr, List, [], ◌∷◌, ◌++◌, length, Bool, true, false, ◌==◌, cond, nat_lt, Option, Some, None, slice_get, refl, sym, ap, subst, ◌∙◌, length-append, option_and_then, option_map, option_to_list, arith}
use Rattle.std.specs.Prelude.{unwrap_or}
use Rattle.wasm_ops.specs.declared.modules.Body.{Body}
use Rattle.wasm_ops.specs.declared.modules.Module.{Module}
use Rattle.wasm_ops.specs.declared.operators.Op.{Op}
use Rattle.wasm_ops.specs.declared.operators.Op.TheVariants.{End}
use Rattle.wasm_ops.specs.Limits.{imported_functions}
use Rattle.wasm_ops.specs.Sequence.{flat}
use Rattle.wasm_ops.specs.declared.host_calls.HostName.{HostName}
use Rattle.wasm_ops.specs.declared.host_calls.HostName.TheVariants.{FdRead, FdWrite, ProcExit}
use Rattle.wasm_ops.specs.declared.modules.Export.{Export}
use Rattle.wasm_ops.specs.declared.types.FuncType.{FuncType}
use Rattle.wasm_meaning.specs.declared.links.LinkRule.TheVariants.{StartShape}
use Rattle.wasm_meaning.specs.Control.{Callee, Host, imported_or, callee_at}
use Rattle.wasm_meaning.specs.HostCalls.{host_type}
use Rattle.wasm_meaning.specs.Linking.{link_refusal, first_refused, import_refusal, told_at, is_entry, entry_refusal, export_named, entry_name}
use Rattle.wasm_meaning.specs.Pending.{entering}
use Rattle.wasm_meaning.specs.Programs.{Program, IsProgram, first, start_body, entry_body, body_number, hosts, instance_of}
use Rattle.wasm_meaning.specs.Validity.{is_bare}
use Rattle.wasm_meaning.specs.ValiditySpaces.{function_type}
use Rattle.wasm_meaning.proofs.ModuleFacts.{get_at, get_behind, and_both, is_less, none_of_all, not_told, holds_unless, nothing_taken}
use Rattle.wasm_meaning.proofs.Ready.{CalleeFits}
use Rattle.wasm_meaning.proofs.SafeInstances.{as_many_hosts, instance_fits}
use Rattle.wasm_pending.specs.Typed.{OnlyEntries, CanEnter}
use Rattle.wasm_pending.proofs.Entries.{entries_enter}
use Rattle.wasm_pending.proofs.FirstStates.{first_idle}
use Rattle.wasm_store.specs.View.{View}
use Rattle.wasm_states.specs.Codes.{operator_in, operator_at}
use Rattle.wasm_states.specs.Holding.{Holds, Begins, fresh_view, rest_body, rest_place, last_place}
use Rattle.wasm_states.proofs.CodeLaws.{code_of, is_code}

-- The body of `_start`.

abbrev bare : FuncType
bare = record { params = []; result = None }

entry_is_fine : (m : Module) (pages : ℕ) → link_refusal m pages ≡ None → entry_refusal m (export_named entry_name m.exports) ≡ None
unfolding link_refusal
entry_is_fine m pages links =
    let a = none_of_all (first_refused (import_refusal m.types) 0 m.imports) _ links in
    not_told 0 (entry_refusal m (export_named entry_name m.exports)) (none_of_all (told_at 0 (entry_refusal m (export_named entry_name m.exports))) _ a.1).0

-- a function of the host takes a parameter
no_bare_host : (name : HostName) → host_type name ≡ bare → ⊥
no_bare_host FdRead e = let same = ap (λ (t : FuncType). t.params) e in let bad : ⊥ = cc in bad
no_bare_host FdWrite e = let same = ap (λ (t : FuncType). t.params) e in let bad : ⊥ = cc in bad
no_bare_host ProcExit e = let same = ap (λ (t : FuncType). t.params) e in let bad : ⊥ = cc in bad

not_imported : (p : Program) → IsProgram p → (index : ℕ) → function_type p.linked index ≡ Some bare → nat_lt index (imported_functions p.linked.imports) ≡ true → ⊥
not_imported p is index has below =
    let many = as_many_hosts p.linked p.pages is.links in
    let lt = is_less index (imported_functions p.linked.imports) below in
    let name = get_at (hosts p.linked) index (omega (arith, many, lt)) in
    let callee = (instance_fits p is).callees index bare has in
    let found : callee_at (instance_of p) index ≡ Some (Host name.item) = ap (λ (o : Option HostName). imported_or o (instance_of p) index) name.is in
    let same : callee.callee ≡ Host name.item = given callee.callee (Host name.item) (callee_at (instance_of p) index) callee.is found in
    no_bare_host name.item (subst (λ (c : Callee). CalleeFits p.linked bare c) same callee.fits)
  where
    given : (x y : Callee) (o : Option Callee) → o ≡ Some x → o ≡ Some y → x ≡ y
    given x y o e f = cc

record HasEntry (m : Module) : Type 0 where
  body : ℕ
  is : entry_body m ≡ Some body

has_entry : (p : Program) → IsProgram p → HasEntry p.linked
has_entry p is = by (export_named entry_name p.linked.exports) refl (entry_is_fine p.linked p.pages is.links)
  where
    typed_entry
        : (export : Export) (o : Option FuncType) → export_named entry_name p.linked.exports ≡ Some export → function_type p.linked export.index ≡ o
        → unwrap_or (option_map is_bare o) false ≡ true → HasEntry p.linked
    typed_entry export None named has e = let bad : ⊥ = cc in absurd bad
    typed_entry export (Some t) named has e =
        own (nat_lt export.index (imported_functions p.linked.imports)) refl (has ∙ ap (λ (u : FuncType). Some u) (nothing_taken t e))
      where
        own : (b : Bool) → nat_lt export.index (imported_functions p.linked.imports) ≡ b → function_type p.linked export.index ≡ Some bare → HasEntry p.linked
        own true below typed_bare = absurd (not_imported p is export.index typed_bare below)
        own false below typed_bare = record {
          body = export.index - imported_functions p.linked.imports;
          is = ap (λ (o : Option Export). option_and_then (body_number p.linked) (option_map (λ (x : Export). x.index) o)) named
              ∙ ap (λ (b : Bool). cond b None (Some (export.index - imported_functions p.linked.imports))) below;
        }

    by : (o : Option Export) → export_named entry_name p.linked.exports ≡ o → entry_refusal p.linked o ≡ None → HasEntry p.linked
    by None named e = let bad : ⊥ = cc in absurd bad
    by (Some export) named e =
        let both = and_both (export.kind == 0) (unwrap_or (option_map is_bare (function_type p.linked export.index)) false) (holds_unless StartShape (is_entry p.linked export) e) in
        typed_entry export (function_type p.linked export.index) named refl both.1

last_enters : (m : Module) (others : List ℕ) (body : ℕ) → OnlyEntries m (entering (others ++ body ∷ [])) → CanEnter m body
last_enters m [] body only = only.0
last_enters m (j ∷ others) body only = last_enters m others body only.1

-- Where the code rests.

last_op : (ops front : List Op) → ops ≡ front ++ End ∷ [] → slice_get ops (length ops - 1) ≡ Some End
last_op ops front is =
    ap (λ (all : List Op). slice_get all (length all - 1)) is
    ∙ ap (λ (k : ℕ). slice_get (front ++ End ∷ []) k) (place (length (front ++ End ∷ [])) (length front) (length-append front (End ∷ [])))
    ∙ get_behind front (End ∷ []) 0
  where
    place : (all count : ℕ) → all ≡ count + 1 → all - 1 ≡ count + 0
    place all count e = omega (arith, e)

rests_there : (p : Program) → IsProgram p → operator_at p.linked (rest_body p.linked) (rest_place p.linked) ≡ Some End
rests_there p is =
    let e = has_entry p is in
    let only = entries_enter p is in
    let entered = subst (λ (o : Option ℕ). OnlyEntries p.linked (entering (option_to_list (start_body p.linked) ++ option_to_list o))) e.is only in
    let can = last_enters p.linked (option_to_list (start_body p.linked)) e.body entered in
    let code = code_of p.linked e.body can.runs can.is in
    let formed = (is_code p.linked is.formed e.body code.0).formed in
    let last = last_op code.0.body.ops (flat 0 formed.sequence) formed.stands.laid_out in
    let number : rest_body p.linked ≡ e.body = ap (λ (o : Option ℕ). unwrap_or o 0) e.is in
    ap (λ (j : ℕ). operator_at p.linked j (last_place (slice_get p.linked.bodies j))) number
    ∙ ap (λ (b : Option Body). operator_in b (last_place b)) code.0.found
    ∙ last

few_of : (o q : Option ℕ) → length (option_to_list o ++ option_to_list q) ≤ 2
few_of None None = omega arith
few_of None (Some n) = omega arith
few_of (Some n) None = omega arith
few_of (Some n) (Some k) = omega arith

fresh_holds : (p : Program) (pages : ℕ) → IsProgram p → p.pages ≤ pages → (body : List ℕ) → Holds p (fresh_view p pages) (first p body)
fresh_holds p pages is room body = record {
  program = is;
  stands = inr (record {
    entries_are = refl;
    no_cells = refl;
    no_labels = refl;
    no_frames = refl;
    unused = refl;
    none_live = refl;
    rests = rests_there p is;
    typing = first_idle p is body;
  });
  store = record { memory = refl; globals = refl; table = refl; room = room };
  few_entries = few_of (start_body p.linked) (entry_body p.linked);
}

pub begins : (p : Program) (pages : ℕ) (v : View) → IsProgram p → p.pages ≤ pages → v ≡ fresh_view p pages → Begins p v
begins p pages v is room e = subst (λ (x : View). Begins p x) (sym e) (record { holds = fresh_holds p pages is room })
