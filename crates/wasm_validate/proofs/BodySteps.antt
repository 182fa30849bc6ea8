-- The bodies so far, and one more.
use Rattle.std.proofs.Common.{◌≡◌, ℕ, below_more, ◌+◌, ◌-◌, ◌<◌, ◌≤◌, List, [], ◌∷◌, ◌++◌, length, get_or, take, drop, Option, Some, Ok, refl, ap, sym, ◌∙◌, arith, length-append}
use Rattle.std.proofs.lemmas.List.{get_or_append_left, get_or-append_right, length-take-le}
use Rattle.wasm_meaning.specs.ValidityChecks.{Check, go_on, each_behind}
use Rattle.wasm_validate.proofs.Loops.{next_item}
use Rattle.std.proofs.lemmas.Option.{slice_get-get_or}
use Rattle.std.specs.Prelude.{slice_get}
use Rattle.wasm_ops.specs.declared.modules.Module.{Module}
use Rattle.wasm_ops.specs.declared.modules.Body.{Body}
use Rattle.wasm_meaning.specs.Validity.{body_height, body_nest, height_in, nest_in, body_walk, next_body}
use Rattle.wasm_meaning.specs.ValiditySpaces.{body_type}
use Rattle.wasm_typing.specs.declared.measures.Measure.{Measure}
use Rattle.wasm_validate.specs.Measured.{AreMeasured, measure_at}

measure_is : (made : Measure) (high deep : ℕ) → made.height ≡ high → made.nest ≡ deep → made ≡ record { height = high; nest = deep }
measure_is made high deep h n = rw (← h, ← n) refl

-- the measure of the next body
pub measured_more
    : (m : Module) (i number : ℕ) (b : Body) (measures : List Measure) (made : Measure) → AreMeasured m i measures → i < length m.bodies → b ≡ get_or m.bodies i b
    → number ≡ i → made.height ≡ height_in m (body_type m number) (Some b) → made.nest ≡ nest_in (Some b)
    → AreMeasured m (i + 1) (measures ++ made ∷ [])
measured_more m i number b measures made so_far lt at place high deep = record {
  count = omega (arith, so_far.count, length-append measures (made ∷ []));
  each = λ k d within. below_more (λ (n : ℕ). get_or (measures ++ made ∷ []) n d ≡ measure_at m n) i (λ n lower. before n d lower) (last d) k within;
}
  where
    here : slice_get m.bodies i ≡ Some b
    here = slice_get-get_or m.bodies i b lt ∙ ap Some (sym at)

    is_made : made ≡ measure_at m i
    is_made =
        measure_is made (body_height m i) (body_nest m i)
        (high ∙ (ap (λ (n : ℕ). height_in m (body_type m n) (Some b)) place ∙ ap (λ (o : Option Body). height_in m (body_type m i) o) (sym here)))
        (deep ∙ ap (λ (o : Option Body). nest_in o) (sym here))

    before : (n : ℕ) (d : Measure) → n < i → get_or (measures ++ made ∷ []) n d ≡ measure_at m n
    before n d lower =
        let few : n < length measures = omega (arith, so_far.count) in get_or_append_left measures (made ∷ []) d n few ∙ so_far.each n d lower

    last : (d : Measure) → get_or (measures ++ made ∷ []) i d ≡ measure_at m i
    last d =
        let behind : length measures ≤ i = omega (arith, so_far.count) in
        let none : i - length measures ≡ 0 = omega (arith, so_far.count) in
        get_or-append_right measures (made ∷ []) (length measures) i d refl behind ∙ rw none is_made

-- the next body breaks no rule
pub body_goes
    : (m : Module) (i number : ℕ) (b : Body) → i < length m.bodies → b ≡ get_or m.bodies i b → number ≡ i → body_walk m number b ≡ Ok tt
    → each_behind (next_body m) (take (i + 1) m.bodies) (drop (i + 1) m.bodies) ≡ each_behind (next_body m) (take i m.bodies) (drop i m.bodies)
body_goes m i number b lt at place walked =
    let next = next_item (next_body m) m.bodies i b lt at in
    let count : length (take i m.bodies) ≡ number = length-take-le i m.bodies (omega arith) ∙ sym place in
    sym (next
    ∙ (ap (λ (n : ℕ). go_on (body_walk m n b) (λ passed. each_behind (next_body m) (take (i + 1) m.bodies) (drop (i + 1) m.bodies))) count
    ∙ ap (λ (c : Check). go_on c (λ passed. each_behind (next_body m) (take (i + 1) m.bodies) (drop (i + 1) m.bodies))) walked))
