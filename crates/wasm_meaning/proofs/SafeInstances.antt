-- The instance of a program has the functions of its module, and each that it defines is typed.
use Rattle.std.proofs.Common.{◌≡◌, ◌⊎◌, inl, inr, ℕ, zero, suc, ◌+◌, ◌-◌, ◌<◌, ◌≤◌, Bool, true, false, nat_lt, List, [], ◌∷◌, ◌++◌, length, filter_map, Option, Some, None, Result, Ok, Err, slice_get, refl, sym, ap, subst, ◌∙◌, option_and_then, arith}
use Rattle.std.proofs.lemmas.Bool.Decides.{nat_tests}
use Rattle.std.specs.List.{AllByRecursion, cons_option}
use Rattle.wasm_ops.proofs.NestedLaws.{ahead_of-body}
use Rattle.wasm_ops.specs.Limits.{imported_functions}
use Rattle.wasm_ops.specs.Sequence.{Sequence, Done, Plain, InBlock, InLoop, InIf, InIfElse, IsNested, size, flat}
use Rattle.wasm_ops.specs.Nested.{Ahead}
use Rattle.wasm_ops.specs.WellFormed.{IsOperator, IsWellFormedBody, IsWellFormed}
use Rattle.wasm_ops.specs.declared.host_calls.HostName.{HostName}
use Rattle.wasm_ops.specs.declared.modules.Body.{Body}
use Rattle.wasm_ops.specs.declared.modules.Import.{Import}
use Rattle.wasm_ops.specs.declared.modules.ImportItem.{ImportItem}
use Rattle.wasm_ops.specs.declared.modules.ImportItem.TheVariants as item
use Rattle.wasm_ops.specs.declared.modules.Module.{Module}
use Rattle.wasm_ops.specs.declared.operators.Op.{Op}
use Rattle.wasm_ops.specs.declared.operators.Op.TheVariants.{Else, End}
use Rattle.wasm_ops.specs.declared.types.FuncType.{FuncType}
use Rattle.wasm_meaning.specs.declared.blocks.BlockKind.TheVariants.{BlockBody}
use Rattle.wasm_meaning.specs.declared.links.LinkRule.TheVariants.{ImportType}
use Rattle.wasm_meaning.specs.declared.violations.Violation.{Violation}
use Rattle.wasm_meaning.specs.Control.{Host, Defined, defined_callee, imported_or}
use Rattle.wasm_meaning.specs.Fitting.{IsFair, HasType}
use Rattle.wasm_meaning.specs.HostCalls.{host_type}
use Rattle.wasm_meaning.specs.Linking.{first_refused, host_in, has_host_type, item_refusal, import_refusal, link_refusal}
use Rattle.wasm_meaning.specs.Programs.{Program, IsProgram, function_of, or_bare, defined_from, defined, hosts, instance_of}
use Rattle.wasm_meaning.specs.State.{Function}
use Rattle.wasm_meaning.specs.Typing.{context_of, typed, ended, sequence_in, nested_body, body_typed}
use Rattle.wasm_meaning.specs.TypingOperands.{Walk, start}
use Rattle.wasm_meaning.specs.Validity.{in_body, typed_in, body_walk, next_body, bodies_walk, outside_walk, module_walk}
use Rattle.wasm_meaning.specs.ValiditySpaces.{as_function, imported, functions, function_type, body_type}
use Rattle.wasm_meaning.proofs.Fits.{went}
use Rattle.wasm_meaning.proofs.ModuleFacts.{get_defined, imported_count, get_past, get_at, is_within, all_at, all_front, all_rest, passes_both, each_checked, none_of_all, first_is_fine, holds_unless}
use Rattle.wasm_meaning.proofs.Ready.{TypedFunction, CalleeAt, InstanceFits}
use Rattle.wasm_meaning.proofs.SafeControl.{function_types_equal}

-- Bodies.

-- the operators of a flat form are what they may be, so those of the sequence are
fair_flat : (targets : ℕ) (s : Sequence) (at : ℕ) → IsNested s → AllByRecursion (IsOperator targets) (flat at s) → IsFair targets s
fair_flat targets Done at is all = tt
fair_flat targets (Plain o rest) at is all = (is.0, all.0, fair_flat targets rest (at + 1) is.1 all.1)
fair_flat targets (InBlock t body rest) at is all =
    let held = flat (at + 1) body in
    let behind = End ∷ flat (at + 2 + size body) rest in (
      fair_flat targets body (at + 1) is.0 (all_front (IsOperator targets) held behind all.1),
      fair_flat targets rest (at + 2 + size body) is.1 (all_rest (IsOperator targets) held behind all.1).1,
    )
fair_flat targets (InLoop t body rest) at is all =
    let held = flat (at + 1) body in
    let behind = End ∷ flat (at + 2 + size body) rest in (
      fair_flat targets body (at + 1) is.0 (all_front (IsOperator targets) held behind all.1),
      fair_flat targets rest (at + 2 + size body) is.1 (all_rest (IsOperator targets) held behind all.1).1,
    )
fair_flat targets (InIf t inner rest) at is all =
    let held = flat (at + 1) inner in
    let behind = End ∷ flat (at + 2 + size inner) rest in (
      fair_flat targets inner (at + 1) is.0 (all_front (IsOperator targets) held behind all.1),
      fair_flat targets rest (at + 2 + size inner) is.1 (all_rest (IsOperator targets) held behind all.1).1,
    )
fair_flat targets (InIfElse t inner other rest) at is all =
    let held = flat (at + 1) inner in
    let second = flat (at + 2 + size inner) other in
    let behind = End ∷ flat (at + 3 + size inner + size other) rest in
    let both = Else (at + 2 + size inner + size other) ∷ (second ++ behind) in
    let more = (all_rest (IsOperator targets) held both all.1).1 in (
      fair_flat targets inner (at + 1) is.0 (all_front (IsOperator targets) held both all.1),
      fair_flat targets other (at + 2 + size inner) is.1 (all_front (IsOperator targets) second behind more),
      fair_flat targets rest (at + 3 + size inner + size other) is.2 (all_rest (IsOperator targets) second behind more).1,
    )

fair_body : (body : Body) → IsWellFormedBody body → IsFair (length body.targets) (nested_body body.ops)
fair_body body formed =
    let s = formed.sequence in
    let same : nested_body body.ops ≡ s = ap (λ (a : Option (List Ahead)). sequence_in a) (ahead_of-body body.ops s formed.stands) in
    let all = subst (λ (ops : List Op). AllByRecursion (IsOperator (length body.targets)) ops) formed.stands.laid_out formed.operators in
    subst (λ (x : Sequence). IsFair (length body.targets) x) (sym same)
    (fair_flat (length body.targets) s 0 formed.stands.nested (all_front (IsOperator (length body.targets)) (flat 0 s) (End ∷ []) all))

-- Functions that the module defines.

pub record DefinedAt (m : Module) (j : ℕ) (type : FuncType) : Type 0 where
  pub function : Function
  pub is : slice_get (defined m) j ≡ Some function
  pub fits : TypedFunction m type function

typed_body_of : (m : Module) (j : ℕ) (body : Body) (type : FuncType) → body_walk m j body ≡ Ok tt → body_type m j ≡ Some type → IsWellFormedBody body → TypedFunction m type (function_of m type body)
typed_body_of m j body type passes is formed =
    let here : typed_in m j body (Some type) ≡ Ok tt = subst (λ (t : Option FuncType). typed_in m j body t ≡ Ok tt) is passes in
    let walk = typed_ok (body_typed m type body) here in
    let w = went (typed (context_of m type body) (nested_body body.ops) start) (ended BlockBody type.result) walk.0 walk.1 in
    record {
      params_are = refl;
      result_is = refl;
      last = w.middle;
      done = walk.0;
      walk = w.first;
      ends = w.second;
      fair = fair_body body formed;
    }
  where
    typed_ok : (r : Result Walk Violation) → in_body j r ≡ Ok tt → (walk : Walk) × (r ≡ Ok walk)
    typed_ok (Ok walk) e = (walk, refl)
    typed_ok (Err why) e = let bad : ⊥ = cc in absurd bad

defined_get
    : (m : Module) (types : List ℕ) (bodies : List Body) (j ti : ℕ) (type : FuncType) (body : Body) → slice_get types j ≡ Some ti → slice_get m.types ti ≡ Some type
    → slice_get bodies j ≡ Some body → slice_get (defined_from m types bodies) j ≡ Some (function_of m type body)
defined_get m [] bodies j ti type body t is b = let bad : ⊥ = cc in absurd bad
defined_get m (x ∷ types) [] j ti type body t is b = let bad : ⊥ = cc in absurd bad
defined_get m (x ∷ types) (y ∷ bodies) zero ti type body t is b =
    let first : x ≡ ti = cc in
    let second : y ≡ body = cc in
    let found : slice_get m.types x ≡ Some type = ap (λ (k : ℕ). slice_get m.types k) first ∙ is in
    ap (λ (o : Option FuncType). Some (function_of m (or_bare o) y)) found ∙ ap (λ (z : Body). Some (function_of m type z)) second
defined_get m (x ∷ types) (y ∷ bodies) (suc j) ti type body t is b = defined_get m types bodies j ti type body t is b

-- the index of a function's type, where it has one
record TypeIndex (m : Module) (o : Option ℕ) (type : FuncType) : Type 0 where
  index : ℕ
  is : o ≡ Some index
  found : slice_get m.types index ≡ Some type

type_index : (m : Module) (o : Option ℕ) (type : FuncType) → option_and_then (slice_get m.types) o ≡ Some type → TypeIndex m o type
type_index m None type e = let bad : ⊥ = cc in absurd bad
type_index m (Some index) type e = record { index = index; is = refl; found = e }

pub defined_at : (m : Module) → IsWellFormed m → module_walk m ≡ Ok tt → (j : ℕ) (type : FuncType) → body_type m j ≡ Some type → DefinedAt m j type
unfolding module_walk bodies_walk defined
defined_at m formed valid j type is =
    let bodies = (passes_both (bodies_walk m) [] (passes_both (outside_walk m) (bodies_walk m ∷ []) valid).1).0 in
    let t = type_index m (slice_get (functions m) (imported_functions m.imports + j)) type is in
    let own : slice_get m.functions j ≡ Some t.index = sym (get_defined m j) ∙ t.is in
    let within = is_within m.functions j t.index own in
    let b = get_at m.bodies j (omega (arith, within, formed.as_many_bodies)) in
    let checked = each_checked (next_body m) m.bodies j b.item bodies b.is in
    let passes : body_walk m j b.item ≡ Ok tt = subst (λ (k : ℕ). body_walk m k b.item ≡ Ok tt) checked.place checked.passes in
    record {
      function = function_of m type b.item;
      is = defined_get m m.functions m.bodies j t.index type b.item own t.found b.is;
      fits = typed_body_of m j b.item type passes is (all_at IsWellFormedBody m.bodies j b.item formed.items.bodies b.is);
    }

-- Imported functions.

-- an import that links is one of the host's functions, of its type
record Linked (types : List FuncType) (import : Import) : Type 0 where
  host : HostName
  index : ℕ
  type : FuncType
  named : host_in import.«module» import.name ≡ Some host
  is_function : as_function import.item ≡ Some index
  has : slice_get types index ≡ Some type
  same : host_type host ≡ type

linked_host
    : (types : List FuncType) (import : Import) (o : Option HostName) (i : ImportItem) → host_in import.«module» import.name ≡ o → import.item ≡ i
    → item_refusal types o i ≡ None → Linked types import
linked_host types import o (item.Table limits) named is e = let bad : ⊥ = cc in absurd bad
linked_host types import o (item.Memory limits) named is e = let bad : ⊥ = cc in absurd bad
linked_host types import o (item.Global value mutable) named is e = let bad : ⊥ = cc in absurd bad
linked_host types import None (item.Function index) named is e = let bad : ⊥ = cc in absurd bad
linked_host types import (Some host) (item.Function index) named is e = by (slice_get types index) refl (holds_unless ImportType (has_host_type host (slice_get types index)) e)
  where
    by : (o : Option FuncType) → slice_get types index ≡ o → has_host_type host o ≡ true → Linked types import
    by None has same = let bad : ⊥ = cc in absurd bad
    by (Some type) has same = record {
      host = host;
      index = index;
      type = type;
      named = named;
      is_function = ap (λ (i : ImportItem). as_function i) is;
      has = has;
      same = function_types_equal (host_type host) type same;
    }

-- functions of the host, and the indices of their types
record HostsFit (types : List FuncType) (names : List HostName) (indices : List ℕ) : Type 0 where
  as_many : length names ≡ length indices
  each
      : (j index : ℕ) → slice_get indices j ≡ Some index
      → (host : HostName) × (slice_get names j ≡ Some host) × (slice_get types index ≡ Some (host_type host))

no_hosts : (types : List FuncType) → HostsFit types [] []
no_hosts types = record { as_many = refl; each = λ j index e. let bad : ⊥ = cc in absurd bad }

more_hosts
    : (types : List FuncType) (host : HostName) (index : ℕ) (names : List HostName) (indices : List ℕ) → slice_get types index ≡ Some (host_type host)
    → HostsFit types names indices → HostsFit types (host ∷ names) (index ∷ indices)
more_hosts types host index names indices has rest = record { as_many = ap suc rest.as_many; each = here }
  where
    here
        : (j i : ℕ) → slice_get (index ∷ indices) j ≡ Some i
        → (h : HostName) × (slice_get (host ∷ names) j ≡ Some h) × (slice_get types i ≡ Some (host_type h))
    here zero i e =
        let same : index ≡ i = cc in
        (host, refl, subst (λ (k : ℕ). slice_get types k ≡ Some (host_type host)) same has)
    here (suc j) i e = rest.each j i e

abbrev host_of_import : Import → Option HostName
host_of_import import = host_in import.«module» import.name

abbrev function_of_import : Import → Option ℕ
function_of_import import = as_function import.item

hosts_fit
    : (types : List FuncType) (imports : List Import) (at : ℕ) → first_refused (import_refusal types) at imports ≡ None
    → HostsFit types (filter_map host_of_import imports) (filter_map function_of_import imports)
hosts_fit types [] at e = no_hosts types
hosts_fit types (import ∷ imports) at e =
    let both = first_is_fine (import_refusal types) at import imports e in
    let l = linked_host types import (host_in import.«module» import.name) import.item refl refl both.0 in
    let rest = hosts_fit types imports (at + 1) both.1 in
    let has : slice_get types l.index ≡ Some (host_type l.host) = l.has ∙ ap (λ (t : FuncType). Some t) (sym l.same) in
    subst (λ (o : Option HostName). HostsFit types (cons_option o (filter_map host_of_import imports)) (filter_map function_of_import (import ∷ imports))) (sym l.named)
    (subst (λ (o : Option ℕ). HostsFit types (l.host ∷ filter_map host_of_import imports) (cons_option o (filter_map function_of_import imports))) (sym l.is_function)
    (more_hosts types l.host l.index (filter_map host_of_import imports) (filter_map function_of_import imports) has rest))

pub imports_link : (m : Module) (pages : ℕ) → link_refusal m pages ≡ None → first_refused (import_refusal m.types) 0 m.imports ≡ None
unfolding link_refusal
imports_link m pages links = (none_of_all (first_refused (import_refusal m.types) 0 m.imports) _ links).0

pub as_many_hosts : (m : Module) (pages : ℕ) → link_refusal m pages ≡ None → length (hosts m) ≡ imported_functions m.imports
as_many_hosts m pages links = (hosts_fit m.types m.imports 0 (imports_link m pages links)).as_many ∙ imported_count m.imports

-- The instance.

-- a function index is that of an imported function, or so many behind these
split_at : (count index : ℕ) → (index < count) ⊎ (index ≡ count + (index - count))
split_at count index = by (nat_lt index count) refl
  where
    by : (b : Bool) → nat_lt index count ≡ b → (index < count) ⊎ (index ≡ count + (index - count))
    by true e = let lt : index < count = grind (arith, nat_tests) in inl lt
    by false e = let le : count ≤ index = grind (arith, nat_tests) in inr (omega (arith, le))

get_before : {A : Type 0} (xs ys : List A) (j : ℕ) → j < length xs → slice_get (xs ++ ys) j ≡ slice_get xs j
get_before [] ys j e = let bad : ⊥ = omega (arith, e) in absurd bad
get_before (x ∷ xs) ys zero e = refl
get_before (x ∷ xs) ys (suc j) e = get_before xs ys j (omega (arith, e))

found_within : (m : Module) (index : ℕ) → index < imported_functions m.imports → index < length (imported as_function m.imports)
found_within m index below = let count = imported_count m.imports in omega (arith, below, count)

imported_callee
    : (m : Module) (pages : ℕ) → (links : link_refusal m pages ≡ None) → (index : ℕ) (type : FuncType) → index < imported_functions m.imports
    → function_type m index ≡ Some type → CalleeAt m (instance_of (record { linked = m; pages = pages })) index type
imported_callee m pages links index type below is =
    let t = type_index m (slice_get (functions m) index) type is in
    let within = found_within m index below in
    let own : slice_get (imported as_function m.imports) index ≡ Some t.index = sym (get_before (imported as_function m.imports) m.functions index within) ∙ t.is in
    let h = (hosts_fit m.types m.imports 0 (imports_link m pages links)).each index t.index own in
    let same : host_type h.0 ≡ type = given_types (host_type h.0) type (sym h.2 ∙ t.found) in
    record {
      callee = Host h.0;
      is = ap (λ (o : Option HostName). imported_or o (instance_of (record { linked = m; pages = pages })) index) h.1;
      fits = same;
    }
  where
    given_types : (t u : FuncType) → Some t ≡ Some u → t ≡ u
    given_types t u e = cc

pub imported_has_type : (m : Module) (pages : ℕ) → link_refusal m pages ≡ None → (index : ℕ) → index < imported_functions m.imports → HasType m index
imported_has_type m pages links index below =
    let within = found_within m index below in
    let a = get_at (imported as_function m.imports) index within in
    let h = (hosts_fit m.types m.imports 0 (imports_link m pages links)).each index a.item a.is in
    record {
      type = host_type h.0;
      is = ap (λ (o : Option ℕ). option_and_then (slice_get m.types) o) (get_before (imported as_function m.imports) m.functions index within ∙ a.is) ∙ h.2;
    }

own_callee
    : (m : Module) (pages : ℕ) → IsWellFormed m → module_walk m ≡ Ok tt → (links : link_refusal m pages ≡ None) → (index : ℕ) (type : FuncType)
    → index ≡ imported_functions m.imports + (index - imported_functions m.imports)
    → function_type m index ≡ Some type → CalleeAt m (instance_of (record { linked = m; pages = pages })) index type
own_callee m pages formed valid links index type behind is =
    let inst = instance_of (record { linked = m; pages = pages }) in
    let many = as_many_hosts m pages links in
    let j = index - imported_functions m.imports in
    let d = defined_at m formed valid j type (ap (λ (k : ℕ). function_type m k) (sym behind) ∙ is) in
    let none : slice_get (hosts m) index ≡ None = get_past (hosts m) index (omega (arith, many, behind)) in
    let place : index - length (hosts m) ≡ j = omega (arith, many) in
    record {
      callee = Defined d.function;
      is = ap (λ (o : Option HostName). imported_or o inst index) none
          ∙ ap (λ (k : ℕ). defined_callee (slice_get (defined m) k)) place
          ∙ ap (λ (o : Option Function). defined_callee o) d.is;
      fits = d.fits;
    }

pub instance_fits : (program : Program) → IsProgram program → InstanceFits program.linked (instance_of program)
instance_fits program is = record {
  types_are = refl;
  callees = λ index type has. by index type has (split_at (imported_functions program.linked.imports) index);
}
  where
    by
        : (index : ℕ) (type : FuncType) → function_type program.linked index ≡ Some type
        → (index < imported_functions program.linked.imports) ⊎ (index ≡ imported_functions program.linked.imports + (index - imported_functions program.linked.imports))
        → CalleeAt program.linked (instance_of program) index type
    by index type has (inl below) = imported_callee program.linked program.pages is.links index type below has
    by index type has (inr behind) = own_callee program.linked program.pages is.formed is.valid is.links index type behind has
