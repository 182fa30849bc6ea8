-- Places of operators are within their body, and so are those that an operator names.
use Rattle.std.proofs.Common.{◌≡◌, ℕ, ◌+◌, ◌<◌, ◌^◌, true, inl, inr, ◌⊎◌, List, [], ◌∷◌, length, Option, Some, None, slice_get, is_some, refl, sym, ap, subst, ◌∙◌, arith}
use Rattle.wasm_ops.specs.declared.modules.Body.{Body}
use Rattle.wasm_ops.specs.declared.modules.Module.{Module}
use Rattle.wasm_ops.specs.declared.operators.Op.{Op}
use Rattle.wasm_ops.specs.declared.operators.Op.TheVariants.{Block, Loop, If, Else, End}
use Rattle.wasm_ops.specs.declared.types.ValType.{ValType}
use Rattle.wasm_ops.specs.Sequence.{Sequence, Done, Plain, InBlock, InLoop, InIf, InIfElse, size}
use Rattle.wasm_ops.specs.WellFormed.{IsWellFormed, IsWellFormedBody}
use Rattle.wasm_meaning.specs.Pending.{Around, AroundBlock, AroundLoop, AroundCall, Entering, Pending}
use Rattle.wasm_meaning.specs.Programs.{Program}
use Rattle.wasm_meaning.specs.State.{Function}
use Rattle.wasm_meaning.proofs.ModuleFacts.{all_at, is_within}
use Rattle.wasm_store.specs.View.{View}
use Rattle.wasm_store.specs.declared.calls.Frame.{Frame}
use Rattle.wasm_store.specs.declared.labels.Label.{Label}
use Rattle.wasm_states.specs.Chains.{Chain}
use Rattle.wasm_states.specs.Codes.{operator_in, op_at, Stands, behind}
use Rattle.wasm_states.specs.Holding.{Holds, IsState}
use Rattle.wasm_states.specs.Running.{Running, Resting}
use Rattle.wasm_states.proofs.BlockMoves.{else_open}
use Rattle.wasm_states.proofs.ChainLaws.{falls_to}
use Rattle.wasm_states.proofs.CodeLaws.{is_code}
use Rattle.wasm_states.proofs.Inversions.{block_here, if_here, if_else_here, done_here}
use Rattle.wasm_states.proofs.StateLaws.{place_of, running_of, there}

-- Where the code stands.

found_in : (m : Module) → IsWellFormed m → (number place : ℕ) (o : Op) (b : Option Body) → slice_get m.bodies number ≡ b → operator_in b place ≡ Some o → place + 1 < 2 ^ 32
found_in m formed number place o None e is = let bad : ⊥ = cc in absurd bad
found_in m formed number place o (Some body) e is =
    let well = all_at IsWellFormedBody m.bodies number body formed.items.bodies e in
    let few = well.few_operators in
    let within = is_within body.ops place o is in
    omega (arith, few, within)

-- the place behind the operator that runs next
pub place_fits : (p : Program) (v : View) (o : Op) → IsState p v → op_at p v ≡ Some o → v.place + 1 < 2 ^ 32
place_fits p v o state at = found_in p.linked state.holds.program.formed v.function v.place o (slice_get p.linked.bodies v.function) refl at

-- an operator stands at the end of a sequence
some_behind : (found : Option Op) (at target : ℕ) → behind at found ≡ Some target → is_some found ≡ true
some_behind None at target e = let bad : ⊥ = cc in absurd bad
some_behind (Some o) at target e = refl

some_of : (found : Option Op) (o : Op) → found ≡ Some o → is_some found ≡ true
some_of None o e = let bad : ⊥ = cc in absurd bad
some_of (Some x) o e = refl

stop_there
    : (m : Module) (function : Function) (ops : List Op) (stop used locals : ℕ) (entries : List ℕ) (around : List Around) (labels : List Label) (frames : List Frame)
    → Chain m function ops stop used locals entries around labels frames → is_some (slice_get ops stop) ≡ true
stop_there m function ops stop used locals entries [] labels frames chain = absurd chain
stop_there m function ops stop used locals entries (AroundBlock t base rest ∷ around) [] frames chain = absurd chain
stop_there m function ops stop used locals entries (AroundBlock t base rest ∷ around) (l ∷ labels) frames chain = some_behind (slice_get ops stop) stop l.target chain.0.closes
stop_there m function ops stop used locals entries (AroundLoop t base body rest ∷ around) [] frames chain = absurd chain
stop_there m function ops stop used locals entries (AroundLoop t base body rest ∷ around) (l ∷ labels) frames chain =
    some_of (slice_get ops stop) End (ap (λ (k : ℕ). slice_get ops k) chain.0.turn ∙ chain.0.stands.2)
stop_there m function ops stop used locals entries (AroundCall t number caller rest ∷ around) labels [] chain = absurd chain
stop_there m function ops stop used locals entries (AroundCall t number caller rest ∷ around) labels (f ∷ []) chain = some_of (slice_get ops stop) End chain.0.closes
stop_there m function ops stop used locals entries (AroundCall t number caller rest ∷ around) labels (f ∷ g ∷ frames) chain = some_of (slice_get ops stop) End chain.0.closes
stop_there m function ops stop used locals entries (Entering number ∷ around) labels frames chain = absurd chain

within_by : (ops : List Op) (k : ℕ) (o : Option Op) → slice_get ops k ≡ o → is_some o ≡ true → k < length ops
within_by ops k None e is = let bad : ⊥ = cc in absurd bad
within_by ops k (Some o) e is = is_within ops k o e

pub stop_within
    : (m : Module) (function : Function) (ops : List Op) (stop used locals : ℕ) (entries : List ℕ) (around : List Around) (labels : List Label) (frames : List Frame)
    → Chain m function ops stop used locals entries around labels frames → stop < length ops
stop_within m function ops stop used locals entries around labels frames chain =
    within_by ops stop (slice_get ops stop) refl (stop_there m function ops stop used locals entries around labels frames chain)

first_there : (ops : List Op) (at : ℕ) (s : Sequence) → Stands ops at s → is_some (slice_get ops (at + size s)) ≡ true → is_some (slice_get ops at) ≡ true
first_there ops at Done stands stop = let same : at + 0 ≡ at = omega arith in subst (λ (k : ℕ). is_some (slice_get ops k) ≡ true) same stop
first_there ops at (Plain o rest) stands stop = some_of (slice_get ops at) o stands.1
first_there ops at (InBlock t body rest) stands stop = some_of (slice_get ops at) (Block t (at + 1 + size body)) stands.0
first_there ops at (InLoop t body rest) stands stop = some_of (slice_get ops at) (Loop t (at + 1 + size body)) stands.0
first_there ops at (InIf t inner rest) stands stop = some_of (slice_get ops at) (If t None (at + 1 + size inner)) stands.0
first_there ops at (InIfElse t inner other rest) stands stop =
    some_of (slice_get ops at) (If t (Some (at + 1 + size inner)) (at + 2 + size inner + size other)) stands.0

-- an operator runs next, in every state
pub op_there : (p : Program) (v : View) → IsState p v → is_some (op_at p v) ≡ true
op_there p v state = by state.holds.stands
  where
    by : Running p v state.pending ⊎ Resting p v state.pending → is_some (op_at p v) ≡ true
    by (inl r) =
        let w = state.pending in
        let stop = stop_there p.linked r.code.function r.code.body.ops (v.place + size w.sequence) v.used (length w.state.frame.locals) v.entries w.around v.labels v.frames r.chain in
        let first = first_there r.code.body.ops v.place w.sequence r.here stop in
        subst (λ (b : Option Body). is_some (operator_in b v.place) ≡ true) (sym r.code.found) first
    by (inr rests) = subst (λ (o : Option Op). is_some o ≡ true) (sym rests.rests) refl

-- Places that operators name.

few_ops : (p : Program) (v : View) (w : Pending) → Holds p v w → (r : Running p v w) → length r.code.body.ops < 2 ^ 32
few_ops p v w h r = (is_code p.linked h.program.formed v.function r.code).whole.few

pub block_end_fits : (p : Program) (v : View) (t : Option ValType) (end : ℕ) → IsState p v → op_at p v ≡ Some (Block t end) → end + 1 < 2 ^ 32
block_end_fits p v t end state at =
    let w = state.pending in
    let r = running_of p v w (Block t end) state.holds at tt in
    let b = block_here r.code.body.ops v.place w.sequence t end (place_of p v w r (Block t end) at) in
    let stands = subst (λ (s : Sequence). Stands r.code.body.ops v.place s) b.is r.here in
    let last = is_within r.code.body.ops (v.place + 1 + size b.body) End stands.2 in
    let few = few_ops p v w state.holds r in
    let e = b.end_is in
    omega (arith, last, few, e)

pub if_end_fits : (p : Program) (v : View) (t : Option ValType) (other : Option ℕ) (end : ℕ) → IsState p v → op_at p v ≡ Some (If t other end) → end + 1 < 2 ^ 32
if_end_fits p v t None end state at =
    let w = state.pending in
    let r = running_of p v w (If t None end) state.holds at tt in
    let b = if_here r.code.body.ops v.place w.sequence t end (place_of p v w r (If t None end) at) in
    let stands = subst (λ (s : Sequence). Stands r.code.body.ops v.place s) b.is r.here in
    let last = is_within r.code.body.ops (v.place + 1 + size b.inner) End stands.2 in
    let few = few_ops p v w state.holds r in
    let e = b.end_is in
    omega (arith, last, few, e)
if_end_fits p v t (Some between) end state at =
    let w = state.pending in
    let r = running_of p v w (If t (Some between) end) state.holds at tt in
    let b = if_else_here r.code.body.ops v.place w.sequence t between end (place_of p v w r (If t (Some between) end) at) in
    let stands = subst (λ (s : Sequence). Stands r.code.body.ops v.place s) b.is r.here in
    let last = is_within r.code.body.ops (v.place + 2 + size b.inner + size b.other) End stands.4 in
    let few = few_ops p v w state.holds r in
    let e = b.end_is in
    omega (arith, last, few, e)

pub if_between_fits : (p : Program) (v : View) (t : Option ValType) (between end : ℕ) → IsState p v → op_at p v ≡ Some (If t (Some between) end) → between + 1 < 2 ^ 32
if_between_fits p v t between end state at =
    let w = state.pending in
    let r = running_of p v w (If t (Some between) end) state.holds at tt in
    let b = if_else_here r.code.body.ops v.place w.sequence t between end (place_of p v w r (If t (Some between) end) at) in
    let stands = subst (λ (s : Sequence). Stands r.code.body.ops v.place s) b.is r.here in
    let last = is_within r.code.body.ops (v.place + 1 + size b.inner) (Else (v.place + 2 + size b.inner + size b.other)) stands.2 in
    let few = few_ops p v w state.holds r in
    let e = b.between_is in
    omega (arith, last, few, e)

pub else_end_fits : (p : Program) (v : View) (end : ℕ) → IsState p v → op_at p v ≡ Some (Else end) → end + 1 < 2 ^ 32
else_end_fits p v end state at =
    let w = state.pending in
    let r = running_of p v w (Else end) state.holds at tt in
    let s = done_here r.code.body.ops v.place w.sequence (Else end) (place_of p v w r (Else end) at) tt in
    let opened = else_open p v end w at r s in
    let ops = r.code.body.ops in
    let stop : v.place + size w.sequence ≡ v.place = ap (λ (x : Sequence). v.place + size x) s ∙ none v.place in
    let f = falls_to p.linked r.code.function ops v.used (length w.state.frame.locals) v.entries (v.place + size w.sequence) w.around v.labels v.frames r.chain opened in
    let found : slice_get ops (v.place + size w.sequence) ≡ Some (Else end) = ap (λ (k : ℕ). slice_get ops k) stop ∙ there p v w r (Else end) at in
    let told : behind (v.place + size w.sequence) (slice_get ops (v.place + size w.sequence)) ≡ Some (end + 1) = ap (λ (o : Option Op). behind (v.place + size w.sequence) o) found in
    let same : f.target ≡ end + 1 = given f.target (end + 1) (behind (v.place + size w.sequence) (slice_get ops (v.place + size w.sequence))) f.behind_is told in
    let last = stop_within p.linked r.code.function ops (f.target + size f.rest) v.used (length w.state.frame.locals) v.entries f.outer _ v.frames f.chain in
    let few = few_ops p v w state.holds r in
    omega (arith, last, few, same)
  where
    none : (n : ℕ) → n + 0 ≡ n
    none n = omega arith

    given : (x y : ℕ) (o : Option ℕ) → o ≡ Some x → o ≡ Some y → x ≡ y
    given x y o e f = cc
