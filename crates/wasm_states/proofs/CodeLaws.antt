-- The body of a function stands as its sequence, and what that says of its operators.
use Rattle.std.proofs.Common.{◌≡◌, ℕ, zero, suc, ◌+◌, ◌<◌, ◌^◌, List, [], ◌∷◌, ◌++◌, length, Option, Some, None, slice_get, refl, sym, ap, subst, ◌∙◌, append_assoc, length-append, arith}
use Rattle.wasm_ops.specs.declared.modules.Body.{Body}
use Rattle.wasm_ops.specs.declared.modules.Module.{Module}
use Rattle.wasm_ops.specs.declared.operators.Op.{Op}
use Rattle.wasm_ops.specs.declared.operators.Op.TheVariants.{Block, Loop, If, Else, End}
use Rattle.wasm_ops.specs.declared.types.FuncType.{FuncType}
use Rattle.wasm_ops.specs.Nested.{IsBodyOf}
use Rattle.wasm_ops.specs.Sequence.{Sequence, Done, Plain, InBlock, InLoop, InIf, InIfElse, IsNested, size, flat}
use Rattle.wasm_ops.specs.WellFormed.{IsWellFormed, IsWellFormedBody}
use Rattle.wasm_ops.proofs.NestedLaws.{length-flat}
use Rattle.wasm_meaning.specs.Programs.{function_of, or_bare, defined_from, defined}
use Rattle.wasm_meaning.specs.State.{Function}
use Rattle.wasm_meaning.specs.Typing.{nested_body}
use Rattle.wasm_meaning.proofs.ModuleFacts.{get_behind, all_at}
use Rattle.wasm_meaning.proofs.TypingLaws.{nested_is}
use Rattle.wasm_states.specs.Codes.{Code, Stands}

-- The flat form.

-- an operator behind a front of the list
get_there : (front : List Op) (at : ℕ) (o : Op) (behind : List Op) → at ≡ length front → slice_get (front ++ o ∷ behind) at ≡ Some o
get_there front at o behind e =
    ap (λ (k : ℕ). slice_get (front ++ o ∷ behind) k) (place at (length front) e) ∙ get_behind front (o ∷ behind) 0
  where
    place : (at count : ℕ) → at ≡ count → at ≡ count + 0
    place at count e = omega (arith, e)

-- the same list, cut elsewhere
joined : (front middle behind : List Op) → front ++ (middle ++ behind) ≡ (front ++ middle) ++ behind
joined front middle behind = sym (append_assoc front middle behind)

one_more : (front : List Op) (o : Op) (behind : List Op) → front ++ (o ∷ behind) ≡ (front ++ o ∷ []) ++ behind
one_more front o behind = joined front (o ∷ []) behind

stands_in
    : (s : Sequence) (at : ℕ) (front behind : List Op) → IsNested s → at ≡ length front → Stands (front ++ (flat at s ++ behind)) at s
stands_in Done at front behind is e = tt
stands_in (Plain o rest) at front behind is e =
    let there = get_there front at o (flat (at + 1) rest ++ behind) e in
    let place : at + 1 ≡ length (front ++ o ∷ []) = omega (arith, e, length-append front (o ∷ [])) in
    let after = stands_in rest (at + 1) (front ++ o ∷ []) behind is.1 place in
    (is.0, there, subst (λ (ops : List Op). Stands ops (at + 1) rest) (sym (one_more front o (flat (at + 1) rest ++ behind))) after)
stands_in (InBlock t body rest) at front behind is e =
    let o = Block t (at + 1 + size body) in
    let held = flat (at + 1) body in
    let last = flat (at + 2 + size body) rest in
    let whole : front ++ ((o ∷ (held ++ End ∷ last)) ++ behind) ≡ (front ++ o ∷ []) ++ (held ++ (End ∷ (last ++ behind)))
    = ap (λ (ops : List Op). front ++ o ∷ ops) (append_assoc held (End ∷ last) behind) ∙ one_more front o (held ++ (End ∷ (last ++ behind))) in
    let place : at + 1 ≡ length (front ++ o ∷ []) = omega (arith, e, length-append front (o ∷ [])) in
    let inner = stands_in body (at + 1) (front ++ o ∷ []) (End ∷ (last ++ behind)) is.0 place in
    let front' = (front ++ o ∷ []) ++ held in
    let whole' : (front ++ o ∷ []) ++ (held ++ (End ∷ (last ++ behind))) ≡ front' ++ (End ∷ (last ++ behind)) = joined (front ++ o ∷ []) held (End ∷ (last ++ behind)) in
    let stop : at + 1 + size body ≡ length front' = omega (arith, e, length-append front (o ∷ []), length-append (front ++ o ∷ []) held, length-flat body (at + 1)) in
    let ends = get_there front' (at + 1 + size body) End (last ++ behind) stop in
    let place' : at + 2 + size body ≡ length (front' ++ End ∷ []) = omega (arith, stop, length-append front' (End ∷ [])) in
    let after = stands_in rest (at + 2 + size body) (front' ++ End ∷ []) behind is.1 place' in
    let whole'' : front' ++ (End ∷ (last ++ behind)) ≡ (front' ++ End ∷ []) ++ (last ++ behind) = one_more front' End (last ++ behind) in (
      get_there front at o ((held ++ End ∷ last) ++ behind) e,
      subst (λ (ops : List Op). Stands ops (at + 1) body) (sym whole) inner,
      subst (λ (ops : List Op). slice_get ops (at + 1 + size body) ≡ Some End) (sym (whole ∙ whole')) ends,
      subst (λ (ops : List Op). Stands ops (at + 2 + size body) rest) (sym (whole ∙ whole' ∙ whole'')) after,
    )
stands_in (InLoop t body rest) at front behind is e =
    let o = Loop t (at + 1 + size body) in
    let held = flat (at + 1) body in
    let last = flat (at + 2 + size body) rest in
    let whole : front ++ ((o ∷ (held ++ End ∷ last)) ++ behind) ≡ (front ++ o ∷ []) ++ (held ++ (End ∷ (last ++ behind)))
    = ap (λ (ops : List Op). front ++ o ∷ ops) (append_assoc held (End ∷ last) behind) ∙ one_more front o (held ++ (End ∷ (last ++ behind))) in
    let place : at + 1 ≡ length (front ++ o ∷ []) = omega (arith, e, length-append front (o ∷ [])) in
    let inner = stands_in body (at + 1) (front ++ o ∷ []) (End ∷ (last ++ behind)) is.0 place in
    let front' = (front ++ o ∷ []) ++ held in
    let whole' : (front ++ o ∷ []) ++ (held ++ (End ∷ (last ++ behind))) ≡ front' ++ (End ∷ (last ++ behind)) = joined (front ++ o ∷ []) held (End ∷ (last ++ behind)) in
    let stop : at + 1 + size body ≡ length front' = omega (arith, e, length-append front (o ∷ []), length-append (front ++ o ∷ []) held, length-flat body (at + 1)) in
    let ends = get_there front' (at + 1 + size body) End (last ++ behind) stop in
    let place' : at + 2 + size body ≡ length (front' ++ End ∷ []) = omega (arith, stop, length-append front' (End ∷ [])) in
    let after = stands_in rest (at + 2 + size body) (front' ++ End ∷ []) behind is.1 place' in
    let whole'' : front' ++ (End ∷ (last ++ behind)) ≡ (front' ++ End ∷ []) ++ (last ++ behind) = one_more front' End (last ++ behind) in (
      get_there front at o ((held ++ End ∷ last) ++ behind) e,
      subst (λ (ops : List Op). Stands ops (at + 1) body) (sym whole) inner,
      subst (λ (ops : List Op). slice_get ops (at + 1 + size body) ≡ Some End) (sym (whole ∙ whole')) ends,
      subst (λ (ops : List Op). Stands ops (at + 2 + size body) rest) (sym (whole ∙ whole' ∙ whole'')) after,
    )
stands_in (InIf t body rest) at front behind is e =
    let o = If t None (at + 1 + size body) in
    let held = flat (at + 1) body in
    let last = flat (at + 2 + size body) rest in
    let whole : front ++ ((o ∷ (held ++ End ∷ last)) ++ behind) ≡ (front ++ o ∷ []) ++ (held ++ (End ∷ (last ++ behind)))
    = ap (λ (ops : List Op). front ++ o ∷ ops) (append_assoc held (End ∷ last) behind) ∙ one_more front o (held ++ (End ∷ (last ++ behind))) in
    let place : at + 1 ≡ length (front ++ o ∷ []) = omega (arith, e, length-append front (o ∷ [])) in
    let inner = stands_in body (at + 1) (front ++ o ∷ []) (End ∷ (last ++ behind)) is.0 place in
    let front' = (front ++ o ∷ []) ++ held in
    let whole' : (front ++ o ∷ []) ++ (held ++ (End ∷ (last ++ behind))) ≡ front' ++ (End ∷ (last ++ behind)) = joined (front ++ o ∷ []) held (End ∷ (last ++ behind)) in
    let stop : at + 1 + size body ≡ length front' = omega (arith, e, length-append front (o ∷ []), length-append (front ++ o ∷ []) held, length-flat body (at + 1)) in
    let ends = get_there front' (at + 1 + size body) End (last ++ behind) stop in
    let place' : at + 2 + size body ≡ length (front' ++ End ∷ []) = omega (arith, stop, length-append front' (End ∷ [])) in
    let after = stands_in rest (at + 2 + size body) (front' ++ End ∷ []) behind is.1 place' in
    let whole'' : front' ++ (End ∷ (last ++ behind)) ≡ (front' ++ End ∷ []) ++ (last ++ behind) = one_more front' End (last ++ behind) in (
      get_there front at o ((held ++ End ∷ last) ++ behind) e,
      subst (λ (ops : List Op). Stands ops (at + 1) body) (sym whole) inner,
      subst (λ (ops : List Op). slice_get ops (at + 1 + size body) ≡ Some End) (sym (whole ∙ whole')) ends,
      subst (λ (ops : List Op). Stands ops (at + 2 + size body) rest) (sym (whole ∙ whole' ∙ whole'')) after,
    )
stands_in (InIfElse t inner other rest) at front behind is e =
    let end = at + 2 + size inner + size other in
    let o = If t (Some (at + 1 + size inner)) end in
    let held = flat (at + 1) inner in
    let second = flat (at + 2 + size inner) other in
    let last = flat (at + 3 + size inner + size other) rest in
    let tail = second ++ (End ∷ (last ++ behind)) in
    let whole : front ++ ((o ∷ (held ++ Else end ∷ (second ++ End ∷ last))) ++ behind) ≡ (front ++ o ∷ []) ++ (held ++ (Else end ∷ tail))
    = ap (λ (ops : List Op). front ++ o ∷ ops) (append_assoc held (Else end ∷ (second ++ End ∷ last)) behind ∙ ap (λ (ops : List Op). held ++ Else end ∷ ops) (append_assoc second (End ∷ last) behind))
    ∙ one_more front o (held ++ (Else end ∷ tail)) in
    let place : at + 1 ≡ length (front ++ o ∷ []) = omega (arith, e, length-append front (o ∷ [])) in
    let first_part = stands_in inner (at + 1) (front ++ o ∷ []) (Else end ∷ tail) is.0 place in
    let front' = (front ++ o ∷ []) ++ held in
    let whole' : (front ++ o ∷ []) ++ (held ++ (Else end ∷ tail)) ≡ front' ++ (Else end ∷ tail) = joined (front ++ o ∷ []) held (Else end ∷ tail) in
    let turn : at + 1 + size inner ≡ length front' = omega (arith, e, length-append front (o ∷ []), length-append (front ++ o ∷ []) held, length-flat inner (at + 1)) in
    let turns = get_there front' (at + 1 + size inner) (Else end) tail turn in
    let place' : at + 2 + size inner ≡ length (front' ++ Else end ∷ []) = omega (arith, turn, length-append front' (Else end ∷ [])) in
    let second_part = stands_in other (at + 2 + size inner) (front' ++ Else end ∷ []) (End ∷ (last ++ behind)) is.1 place' in
    let whole'' : front' ++ (Else end ∷ tail) ≡ (front' ++ Else end ∷ []) ++ tail = one_more front' (Else end) tail in
    let front'' = (front' ++ Else end ∷ []) ++ second in
    let whole3 : (front' ++ Else end ∷ []) ++ tail ≡ front'' ++ (End ∷ (last ++ behind)) = joined (front' ++ Else end ∷ []) second (End ∷ (last ++ behind)) in
    let stop : end ≡ length front'' = omega (arith, turn, length-append front' (Else end ∷ []), length-append (front' ++ Else end ∷ []) second, length-flat other (at + 2 + size inner)) in
    let ends = get_there front'' end End (last ++ behind) stop in
    let place'' : at + 3 + size inner + size other ≡ length (front'' ++ End ∷ []) = omega (arith, stop, length-append front'' (End ∷ [])) in
    let after = stands_in rest (at + 3 + size inner + size other) (front'' ++ End ∷ []) behind is.2 place'' in
    let whole4 : front'' ++ (End ∷ (last ++ behind)) ≡ (front'' ++ End ∷ []) ++ (last ++ behind) = one_more front'' End (last ++ behind) in (
      get_there front at o ((held ++ Else end ∷ (second ++ End ∷ last)) ++ behind) e,
      subst (λ (ops : List Op). Stands ops (at + 1) inner) (sym whole) first_part,
      subst (λ (ops : List Op). slice_get ops (at + 1 + size inner) ≡ Some (Else end)) (sym (whole ∙ whole')) turns,
      subst (λ (ops : List Op). Stands ops (at + 2 + size inner) other) (sym (whole ∙ whole' ∙ whole'')) second_part,
      subst (λ (ops : List Op). slice_get ops end ≡ Some End) (sym (whole ∙ whole' ∙ whole'' ∙ whole3)) ends,
      subst (λ (ops : List Op). Stands ops (at + 3 + size inner + size other) rest) (sym (whole ∙ whole' ∙ whole'' ∙ whole3 ∙ whole4)) after,
    )

-- a whole body stands as its sequence, and ends behind it
pub record StandsWhole (ops : List Op) (s : Sequence) : Type 0 where
  pub stands : Stands ops 0 s
  pub closes : slice_get ops (size s) ≡ Some End
  pub few : length ops < 2 ^ 32

stands_whole : (ops : List Op) (s : Sequence) → IsBodyOf s ops → length ops < 2 ^ 32 → StandsWhole ops s
stands_whole ops s is few = record {
  stands = subst (λ (all : List Op). Stands all 0 s) (sym is.laid_out) (stands_in s 0 [] (End ∷ []) is.nested refl);
  closes = subst (λ (all : List Op). slice_get all (size s) ≡ Some End) (sym is.laid_out) (get_there (flat 0 s) (size s) End [] (sym (length-flat s 0)));
  few = few;
}

-- Bodies of a program.

-- the function and the body with the same number
record FunctionOf (m : Module) (bodies : List Body) (function : Function) (j : ℕ) : Type 0 where
  body : Body
  found : slice_get bodies j ≡ Some body
  type : FuncType
  is : function ≡ function_of m type body

body_of : (m : Module) (types : List ℕ) (bodies : List Body) (j : ℕ) (function : Function) → slice_get (defined_from m types bodies) j ≡ Some function → FunctionOf m bodies function j
body_of m [] bodies j function e = let bad : ⊥ = cc in absurd bad
body_of m (t ∷ types) [] j function e = let bad : ⊥ = cc in absurd bad
body_of m (t ∷ types) (b ∷ bodies) zero function e =
    let same : function ≡ function_of m (or_bare (slice_get m.types t)) b = cc in
    record { body = b; found = refl; type = or_bare (slice_get m.types t); is = same }
body_of m (t ∷ types) (b ∷ bodies) (suc j) function e =
    let rest = body_of m types bodies j function e in
    record { body = rest.body; found = rest.found; type = rest.type; is = rest.is }

-- what is known of the code of a function that runs
pub record IsCode (m : Module) (number : ℕ) (code : Code m number) : Type 0 where
  pub whole : StandsWhole code.body.ops code.function.body
  pub targets : code.function.targets ≡ code.body.targets
  pub formed : IsWellFormedBody code.body

pub is_code : (m : Module) → IsWellFormed m → (number : ℕ) (code : Code m number) → IsCode m number code
unfolding defined
is_code m formed number code =
    let f = body_of m m.functions m.bodies number code.function code.known in
    let same : f.body ≡ code.body = given f.body code.body (slice_get m.bodies number) f.found code.found in
    let well = all_at IsWellFormedBody m.bodies number code.body formed.items.bodies code.found in
    let body_is : code.function.body ≡ well.sequence
    = ap (λ (g : Function). g.body) f.is ∙ ap (λ (b : Body). nested_body b.ops) same ∙ nested_is code.body.ops well.sequence well.stands in
    record {
      whole = subst (λ (s : Sequence). StandsWhole code.body.ops s) (sym body_is) (stands_whole code.body.ops well.sequence well.stands well.few_operators);
      targets = ap (λ (g : Function). g.targets) f.is ∙ ap (λ (b : Body). b.targets) same;
      formed = well;
    }
  where
    given : (x y : Body) (o : Option Body) → o ≡ Some x → o ≡ Some y → x ≡ y
    given x y o e f = cc

-- each function that the module defines has its code
pub code_of : (m : Module) (number : ℕ) (function : Function) → slice_get (defined m) number ≡ Some function → (code : Code m number) × (code.function ≡ function)
unfolding defined
code_of m number function known =
    let f = body_of m m.functions m.bodies number function known in
    (record { function = function; body = f.body; known = known; found = f.found }, refl)
