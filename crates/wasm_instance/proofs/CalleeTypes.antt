-- The type of a function that is called.
use Rattle.std.proofs.Common.{◌≡◌, ℕ, ◌+◌, ◌-◌, ◌<◌, ◌≤◌, Bool, true, false, ◌&&◌, nat_lt, List, [], ◌∷◌, length, Option, Some, None, slice_get, refl, sym, ap, subst, ◌∙◌, arith}
use Rattle.std.proofs.lemmas.Bool.Decides.{nat_tests, same_from_decides}
use Rattle.std.specs.Bool.{Decides}
use Rattle.wasm_ops.specs.Limits.{imported_functions}
use Rattle.wasm_ops.specs.declared.modules.Module.{Module}
use Rattle.wasm_ops.specs.declared.types.FuncType.{FuncType}
use Rattle.wasm_ops.specs.declared.types.ValType.{ValType}
use Rattle.wasm_ops.specs.declared.types.ValType.TheVariants.{I32, I64}
use Rattle.wasm_meaning.specs.Control.{Callee, Host, Defined, callee_at, imported_or, defined_callee, type_of_callee, same_types, same_function_type}
use Rattle.wasm_meaning.specs.Programs.{Program, IsProgram, defined, hosts, instance_of}
use Rattle.wasm_meaning.specs.State.{Function}
use Rattle.wasm_meaning.specs.TypingOperands.{same_type, same_result}
use Rattle.wasm_meaning.specs.ValiditySpaces.{function_type}
use Rattle.wasm_meaning.proofs.ModuleFacts.{get_at, get_past}
use Rattle.wasm_meaning.proofs.Ready.{CalleeFits}
use Rattle.wasm_meaning.proofs.SafeControl.{function_types_equal}
use Rattle.wasm_meaning.proofs.SafeInstances.{as_many_hosts, imported_has_type, instance_fits}
use Rattle.wasm_instance.specs.Callees.{same_as, is_of_type}
use Rattle.wasm_instance.proofs.Functions.{as_many, body_has_type}

-- A type is the same as itself.

same_value : (t : ValType) → same_type t t ≡ true
same_value I32 = refl
same_value I64 = refl

both : (a b : Bool) → a ≡ true → b ≡ true → (a && b) ≡ true
both true b e f = f
both false b e f = let bad : ⊥ = cc in absurd bad

same_values : (ts : List ValType) → same_types ts ts ≡ true
same_values [] = refl
same_values (t ∷ ts) = both (same_type t t) (same_types ts ts) (same_value t) (same_values ts)

same_outcome : (t : Option ValType) → same_result t t ≡ true
same_outcome None = refl
same_outcome (Some t) = same_value t

itself : (t : FuncType) → same_function_type t t ≡ true
itself t = both (same_types t.params t.params) (same_result t.result t.result) (same_values t.params) (same_outcome t.result)

decided : (t u : FuncType) → Decides (same_function_type t u) (t ≡ u)
decided t u = (function_types_equal t u, λ e. subst (λ (v : FuncType). same_function_type t v ≡ true) e (itself t))

-- A function that has a type is called by it.

callee_type : (m : Module) (callee : Callee) (type : FuncType) → CalleeFits m type callee → type_of_callee callee ≡ type
callee_type m (Host name) type fits = fits
callee_type m (Defined f) type fits = made f.params f.result type.params type.result fits.params_are fits.result_is
  where
    made : (ps : List ValType) (r : Option ValType) (qs : List ValType) (s : Option ValType) → ps ≡ qs → r ≡ s
        → ◌≡◌ {A = FuncType} (record { params = ps; result = r }) (record { params = qs; result = s })
    made ps r qs s p q = cc

pub type_is_found
    : (p : Program) → IsProgram p → (index type : ℕ) (wanted found : FuncType) (result : Bool) → slice_get p.linked.types type ≡ Some wanted
    → function_type p.linked index ≡ Some found → Decides result (wanted ≡ found) → result ≡ is_of_type p index type
type_is_found p is index type wanted found result due known decides =
    let c = (instance_fits p is).callees index found known in
    let equal = callee_type p.linked c.callee found c.fits in
    same_from_decides result (same_function_type wanted found) decides (decided wanted found)
    ∙ ap (λ (t : FuncType). same_function_type wanted t) (sym equal)
    ∙ ap (λ (o : Option Callee). same_as (Some wanted) o) (sym c.is)
    ∙ ap (λ (o : Option FuncType). same_as o (callee_at (instance_of p) index)) (sym due)

pub no_type : (p : Program) (index type : ℕ) → slice_get p.linked.types type ≡ None → is_of_type p index type ≡ false
no_type p index type none = ap (λ (o : Option FuncType). same_as o (callee_at (instance_of p) index)) none

-- A function that has none is none.

nothing_there : (p : Program) → IsProgram p → (index : ℕ) → function_type p.linked index ≡ None → callee_at (instance_of p) index ≡ None
nothing_there p is index none = by (nat_lt index (imported_functions p.linked.imports)) refl
  where
    many : length (hosts p.linked) ≡ imported_functions p.linked.imports
    many = as_many_hosts p.linked p.pages is.links

    behind : (j : ℕ) → j ≡ index - imported_functions p.linked.imports → imported_functions p.linked.imports ≤ index → (b : Bool) → nat_lt j (length p.linked.bodies) ≡ b → callee_at (instance_of p) index ≡ None
    behind j at le true e =
        let within : j < length p.linked.bodies = grind (arith, nat_tests) in
        let body = get_at p.linked.bodies j within in
        let typed = body_has_type p.linked (record { formed = is.formed; unbroken = is.valid }) j body.item body.is in
        let place : imported_functions p.linked.imports + j ≡ index = omega (arith, at, le) in
        let known : function_type p.linked index ≡ Some typed.type = ap (λ (k : ℕ). function_type p.linked k) (sym place) ∙ typed.is in
        let bad : ⊥ = cc (known, none) in
        absurd bad
    behind j at le false e =
        let past : length p.linked.bodies ≤ j = grind (arith, nat_tests) in
        let no_host : slice_get (hosts p.linked) index ≡ None = get_past (hosts p.linked) index (omega (arith, many, le)) in
        let count = as_many p.linked is.formed in
        let no_body : slice_get (defined p.linked) (index - length (hosts p.linked)) ≡ None =
        get_past (defined p.linked) (index - length (hosts p.linked)) (omega (arith, many, at, past, count)) in
        ap (λ (o : Option _). imported_or o (instance_of p) index) no_host ∙ ap (λ (o : Option Function). defined_callee o) no_body

    by : (b : Bool) → nat_lt index (imported_functions p.linked.imports) ≡ b → callee_at (instance_of p) index ≡ None
    by true e =
        let below : index < imported_functions p.linked.imports = grind (arith, nat_tests) in
        let typed = imported_has_type p.linked p.pages is.links index below in
        let bad : ⊥ = cc (typed.is, none) in
        absurd bad
    by false e =
        let le : imported_functions p.linked.imports ≤ index = grind (arith, nat_tests) in
        behind (index - imported_functions p.linked.imports) refl le (nat_lt (index - imported_functions p.linked.imports) (length p.linked.bodies)) refl

pub no_callee
    : (p : Program) → IsProgram p → (index type : ℕ) (wanted : FuncType) → slice_get p.linked.types type ≡ Some wanted → function_type p.linked index ≡ None
    → is_of_type p index type ≡ false
no_callee p is index type wanted due none =
    ap (λ (o : Option FuncType). same_as o (callee_at (instance_of p) index)) due
    ∙ ap (λ (o : Option Callee). same_as (Some wanted) o) (nothing_there p is index none)
