-- The functions that a valid module defines, and the room that their calls take.
use Rattle.std.proofs.Common.{◌≡◌, ℕ, zero, suc, ◌+◌, ◌<◌, ◌≤◌, List, [], ◌∷◌, ◌++◌, length, filter_map, get_or, take, map, Option, Some, None, Ok, slice_get, refl, sym, ap, subst, ◌∙◌, option_and_then, option_map, is_some, arith}
use Rattle.std.proofs.lemmas.List.{take_more}
use Rattle.std.proofs.lemmas.List.Elements.{filter_map-append}
use Rattle.std.specs.List.{cons_option}
use Rattle.std.specs.Prelude.{option_to_list}
use Rattle.wasm_ops.specs.declared.host_calls.HostName.{HostName}
use Rattle.wasm_ops.specs.declared.modules.Body.{Body}
use Rattle.wasm_ops.specs.declared.modules.Import.{Import}
use Rattle.wasm_ops.specs.declared.modules.Module.{Module}
use Rattle.wasm_ops.specs.declared.types.FuncType.{FuncType}
use Rattle.wasm_ops.specs.Limits.{imported_functions}
use Rattle.wasm_ops.specs.WellFormed.{IsWellFormed, IsWellFormedBody, IsFunctionType}
use Rattle.wasm_meaning.specs.Linking.{host_in}
use Rattle.wasm_meaning.specs.Programs.{or_bare, function_of, defined_from, defined}
use Rattle.wasm_meaning.specs.State.{Function}
use Rattle.wasm_meaning.specs.Validity.{IsValid, body_height, body_nest, height_in, nest_in, typed_in, body_walk, next_body, bodies_walk, outside_walk, module_walk}
use Rattle.wasm_meaning.specs.ValiditySpaces.{functions, body_type}
use Rattle.wasm_meaning.proofs.ModuleFacts.{get_defined, all_at, passes_both, each_checked}
use Rattle.wasm_instance.specs.declared.callees.Shape.{Shape}
use Rattle.wasm_instance.specs.Callees.{shape_of}

-- each body has a type
pub record HasType (m : Module) (j : ℕ) : Type 0 where
  pub type : FuncType
  pub is : body_type m j ≡ Some type

pub body_has_type : (m : Module) → IsValid m → (j : ℕ) (body : Body) → slice_get m.bodies j ≡ Some body → HasType m j
unfolding module_walk bodies_walk
body_has_type m valid j body is =
    let bodies = (passes_both (bodies_walk m) [] (passes_both (outside_walk m) (bodies_walk m ∷ []) valid.unbroken).1).0 in
    let checked = each_checked (next_body m) m.bodies j body bodies is in
    let passes : body_walk m j body ≡ Ok tt = subst (λ (k : ℕ). body_walk m k body ≡ Ok tt) checked.place checked.passes in
    by (body_type m j) refl passes
  where
    by : (o : Option FuncType) → body_type m j ≡ o → typed_in m j body o ≡ Ok tt → HasType m j
    by None e p = let bad : ⊥ = cc in absurd bad
    by (Some type) e p = record { type = type; is = e }

-- its type's index
record TypeIndex (m : Module) (o : Option ℕ) (type : FuncType) : Type 0 where
  index : ℕ
  is : o ≡ Some index
  found : slice_get m.types index ≡ Some type

type_index : (m : Module) (o : Option ℕ) (type : FuncType) → option_and_then (slice_get m.types) o ≡ Some type → TypeIndex m o type
type_index m None type e = let bad : ⊥ = cc in absurd bad
type_index m (Some index) type e = record { index = index; is = refl; found = e }

defined_get
    : (m : Module) (types : List ℕ) (bodies : List Body) (j index : ℕ) (type : FuncType) (body : Body) → slice_get types j ≡ Some index
    → slice_get m.types index ≡ Some type → slice_get bodies j ≡ Some body → slice_get (defined_from m types bodies) j ≡ Some (function_of m type body)
defined_get m [] bodies j index type body t is b = let bad : ⊥ = cc in absurd bad
defined_get m (x ∷ types) [] j index type body t is b = let bad : ⊥ = cc in absurd bad
defined_get m (x ∷ types) (y ∷ bodies) zero index type body t is b =
    let first : x ≡ index = cc in
    let second : y ≡ body = cc in
    let found : slice_get m.types x ≡ Some type = ap (λ (k : ℕ). slice_get m.types k) first ∙ is in
    ap (λ (o : Option FuncType). Some (function_of m (or_bare o) y)) found ∙ ap (λ (z : Body). Some (function_of m type z)) second
defined_get m (x ∷ types) (y ∷ bodies) (suc j) index type body t is b = defined_get m types bodies j index type body t is b

-- the function of a body is that of its type
pub defined_is
    : (m : Module) (j : ℕ) (type : FuncType) (body : Body) → body_type m j ≡ Some type → slice_get m.bodies j ≡ Some body
    → slice_get (defined m) j ≡ Some (function_of m type body)
unfolding defined
defined_is m j type body typed is =
    let t = type_index m (slice_get (functions m) (imported_functions m.imports + j)) type typed in
    let own : slice_get m.functions j ≡ Some t.index = sym (get_defined m j) ∙ t.is in
    defined_get m m.functions m.bodies j t.index type body own t.found is

defined_long : (m : Module) (types : List ℕ) (bodies : List Body) → length bodies ≡ length types → length (defined_from m types bodies) ≡ length bodies
defined_long m [] [] e = refl
defined_long m [] (y ∷ bodies) e = let bad : ⊥ = omega (arith, e) in absurd bad
defined_long m (x ∷ types) [] e = refl
defined_long m (x ∷ types) (y ∷ bodies) e = ap suc (defined_long m types bodies (omega (arith, e)))

-- as many functions are defined as there are bodies
pub as_many : (m : Module) → IsWellFormed m → length (defined m) ≡ length m.bodies
unfolding defined
as_many m formed = defined_long m m.functions m.bodies formed.as_many_bodies

-- the parameters and locals of a body are few
pub few_params : (m : Module) → IsWellFormed m → (j : ℕ) (type : FuncType) → body_type m j ≡ Some type → length type.params ≤ 1000
few_params m formed j type is =
    let t = type_index m (slice_get (functions m) (imported_functions m.imports + j)) type is in
    all_at IsFunctionType m.types t.index type formed.items.types t.found

pub few_locals : (m : Module) → IsWellFormed m → (j : ℕ) (body : Body) → slice_get m.bodies j ≡ Some body → length body.locals ≤ 1024
few_locals m formed j body is = (all_at IsWellFormedBody m.bodies j body formed.items.bodies is).few_locals

-- the room that a call of a body takes, from what the validator measured
pub shape_is
    : (m : Module) (j : ℕ) (type : FuncType) (body : Body) (high deep : ℕ) → body_type m j ≡ Some type → slice_get m.bodies j ≡ Some body
    → high ≡ body_height m j → deep ≡ body_nest m j
    → option_map shape_of (slice_get (defined m) j)
    ≡ Some (record { cells = length type.params + length body.locals + high + deep; params = length type.params; locals = length body.locals; result = is_some type.result })
shape_is m j type body high deep typed is tall nested =
    let h : high ≡ height_in m (Some type) (Some body) =
    tall ∙ ap (λ (o : Option FuncType). height_in m o (slice_get m.bodies j)) typed ∙ ap (λ (o : Option Body). height_in m (Some type) o) is in
    let d : deep ≡ nest_in (Some body) = nested ∙ ap (λ (o : Option Body). nest_in o) is in
    ap (λ (o : Option Function). option_map shape_of o) (defined_is m j type body typed is)
    ∙ sym (made h d)
  where
    made
        : {h d : ℕ} → high ≡ h → deep ≡ d
        → ◌≡◌ {A = Option Shape} (Some (record { cells = length type.params + length body.locals + high + deep; params = length type.params; locals = length body.locals; result = is_some type.result }))
        (Some (record { cells = length type.params + length body.locals + h + d; params = length type.params; locals = length body.locals; result = is_some type.result }))
    made e f = rw (e, f) refl

mapped_more
    : {A B : Type 0} (f : A → B) (xs : List A) (j : ℕ) (y : B) → option_map f (slice_get xs j) ≡ Some y
    → map f (take (j + 1) xs) ≡ map f (take j xs) ++ y ∷ []
mapped_more f [] j y e = let bad : ⊥ = cc in absurd bad
mapped_more {A} {B} f (x ∷ xs) zero y e =
    let same : f x ≡ y = cc in ap (λ (z : B). z ∷ []) same
mapped_more {A} {B} f (x ∷ xs) (suc j) y e =
    let more : suc j + 1 ≡ suc (j + 1) = omega arith in
    ap (λ (k : ℕ). map f (take k (x ∷ xs))) more ∙ ap (λ (ys : List B). f x ∷ ys) (mapped_more f xs j y e)

-- one shape more
pub shapes_more
    : (m : Module) (j number : ℕ) (shapes after : List Shape) (shape : Shape) → number ≡ j → shapes ≡ map shape_of (take j (defined m))
    → option_map shape_of (slice_get (defined m) number) ≡ Some shape → after ≡ shapes ++ shape ∷ []
    → after ≡ map shape_of (take (j + 1) (defined m))
shapes_more m j number shapes after shape place so_far found more =
    let here = subst (λ (k : ℕ). option_map shape_of (slice_get (defined m) k) ≡ Some shape) place found in
    more ∙ ap (λ (all : List Shape). all ++ shape ∷ []) so_far ∙ sym (mapped_more shape_of (defined m) j shape here)

-- Functions of the host.

abbrev named : Import → Option HostName
named import = host_in import.«module» import.name

laid : {A : Type 0} (found : Option A) → cons_option found [] ≡ option_to_list found
laid None = refl
laid (Some x) = refl

-- what the next import names goes behind what those before it name
pub next_host
    : (imports : List Import) (i : ℕ) (x : Import) (found : Option HostName) (before after : List HostName) → i < length imports → x ≡ get_or imports i x
    → found ≡ host_in x.«module» x.name → before ≡ filter_map named (take i imports) → after ≡ before ++ option_to_list found
    → after ≡ filter_map named (take (i + 1) imports)
next_host imports i x found before after lt at is so_far behind =
    let more : filter_map named (take (i + 1) imports) ≡ filter_map named (take i imports) ++ option_to_list (named (get_or imports i x)) =
    ap (λ (xs : List Import). filter_map named xs) (take_more imports i x lt)
    ∙ filter_map-append named (take i imports) (get_or imports i x ∷ [])
    ∙ ap (λ (last : List HostName). filter_map named (take i imports) ++ last) (laid (named (get_or imports i x))) in
    cc
