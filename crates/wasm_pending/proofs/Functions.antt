-- Each function that a program defines is typed, with the height and the nesting that it is counted with.
use Rattle.std.proofs.Common.{◌≡◌, ℕ, zero, suc, ◌+◌, ◌≤◌, List, [], ◌∷◌, Option, Some, None, Result, Ok, slice_get, refl, sym, ap, subst, ◌∙◌, option_and_then, arith}
use Rattle.wasm_ops.specs.Limits.{imported_functions}
use Rattle.wasm_ops.specs.declared.modules.Body.{Body}
use Rattle.wasm_ops.specs.declared.modules.Module.{Module}
use Rattle.wasm_ops.specs.declared.types.FuncType.{FuncType}
use Rattle.wasm_meaning.specs.declared.blocks.BlockKind.TheVariants.{BlockBody}
use Rattle.wasm_meaning.specs.declared.violations.Violation.{Violation}
use Rattle.wasm_meaning.specs.Programs.{Program, IsProgram, function_of, or_bare, defined_from, defined}
use Rattle.wasm_meaning.specs.State.{Function}
use Rattle.wasm_meaning.specs.Typing.{ended, body_typed, most_of, height_of, depth}
use Rattle.wasm_meaning.specs.TypingOperands.{Walk}
use Rattle.wasm_meaning.specs.Validity.{typed_in, body_walk, next_body, bodies_walk, outside_walk, module_walk}
use Rattle.wasm_meaning.specs.ValidityChecks.{go_on}
use Rattle.wasm_meaning.specs.ValiditySpaces.{functions, body_type}
use Rattle.wasm_meaning.proofs.Fits.{given_some}
use Rattle.wasm_meaning.proofs.ModuleFacts.{get_defined, passes_both, each_checked}
use Rattle.wasm_meaning.proofs.Ready.{TypedFunction}
use Rattle.wasm_meaning.proofs.SafeInstances.{defined_at}
use Rattle.wasm_pending.proofs.Grows.{ended_same}

pub record Measured (m : Module) (f : Function) : Type 0 where
  pub type : FuncType
  pub fits : TypedFunction m type f
  pub height : fits.last.most ≤ f.height
  pub nest : depth f.body ≤ f.nest

-- a function of the module, by its number, from the lists of types and bodies
record Made (m : Module) (types : List ℕ) (bodies : List Body) (j : ℕ) (f : Function) : Type 0 where
  index : ℕ
  body : Body
  type_is : slice_get types j ≡ Some index
  body_is : slice_get bodies j ≡ Some body
  is : function_of m (or_bare (slice_get m.types index)) body ≡ f

made : (m : Module) (types : List ℕ) (bodies : List Body) (j : ℕ) (f : Function) → slice_get (defined_from m types bodies) j ≡ Some f → Made m types bodies j f
made m [] bodies j f e = let bad : ⊥ = cc in absurd bad
made m (x ∷ types) [] j f e = let bad : ⊥ = cc in absurd bad
made m (x ∷ types) (y ∷ bodies) zero f e =
    let here : function_of m (or_bare (slice_get m.types x)) y ≡ f = cc in record { index = x; body = y; type_is = refl; body_is = refl; is = here }
made m (x ∷ types) (y ∷ bodies) (suc j) f e =
    let more = made m types bodies j f e in
    record { index = more.index; body = more.body; type_is = more.type_is; body_is = more.body_is; is = more.is }

height_counts : (m : Module) (type : FuncType) (body : Body) → (fits : TypedFunction m type (function_of m type body)) → fits.last.most ≤ height_of m type body
height_counts m type body fits =
    let whole : body_typed m type body ≡ Ok fits.done = ap (λ (r : Result Walk Violation). go_on r (ended BlockBody type.result)) fits.walk ∙ fits.ends in
    let high = ap most_of whole in
    let same = ended_same BlockBody type.result fits.last fits.done fits.ends in
    omega (arith, high, same.most)

measured_as : (m : Module) (type : FuncType) (body : Body) (f : Function) → function_of m type body ≡ f → TypedFunction m type f → Measured m f
measured_as m type body f is fits =
    let there = subst (λ (g : Function). TypedFunction m type g) (sym is) fits in
    subst (λ (g : Function). Measured m g) is
    (record { type = type; fits = there; height = height_counts m type body there; nest = omega arith })

typed_type : (m : Module) (j : ℕ) (body : Body) (o : Option FuncType) → typed_in m j body o ≡ Ok tt → (type : FuncType) × (o ≡ Some type)
typed_type m j body None e = let bad : ⊥ = cc in absurd bad
typed_type m j body (Some type) e = (type, refl)

pub measured : (program : Program) → IsProgram program → (j : ℕ) (f : Function) → slice_get (defined program.linked) j ≡ Some f → Measured program.linked f
unfolding module_walk bodies_walk defined
measured program is j f known =
    let m = program.linked in
    let g = made m m.functions m.bodies j f known in
    let bodies = (passes_both (bodies_walk m) [] (passes_both (outside_walk m) (bodies_walk m ∷ []) is.valid).1).0 in
    let checked = each_checked (next_body m) m.bodies j g.body bodies g.body_is in
    let passes : body_walk m j g.body ≡ Ok tt = subst (λ (k : ℕ). body_walk m k g.body ≡ Ok tt) checked.place checked.passes in
    let t = typed_type m j g.body (body_type m j) passes in
    let index_is : slice_get (functions m) (imported_functions m.imports + j) ≡ Some g.index = get_defined m j ∙ g.type_is in
    let type_is : slice_get m.types g.index ≡ Some t.0 = sym (ap (λ (o : Option ℕ). option_and_then (slice_get m.types) o) index_is) ∙ t.1 in
    let d = defined_at m is.formed is.valid j t.0 t.1 in
    let same : d.function ≡ f = given_some d.function f (slice_get (defined m) j) d.is known in
    measured_as m t.0 g.body f (sym (ap (λ (o : Option FuncType). function_of m (or_bare o) g.body) type_is) ∙ g.is)
    (subst (λ (h : Function). TypedFunction m t.0 h) same d.fits)
