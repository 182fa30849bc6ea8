-- How a vessel enters a body from outside, or ends.
use Rattle.std.proofs.Common.{◌≡◌, ℕ, ◌+◌, ◌<◌, ◌≤◌, Bool, true, false, [], length, Option, Some, None, slice_get, refl, sym, ap, subst, ◌∙◌, length-append, option_map, arith}
use Rattle.std.proofs.lemmas.List.{length-replicate}
use Rattle.wasm_ops.specs.declared.traps.Trap.TheVariants.{StackExhausted}
use Rattle.wasm_meaning.specs.Bytes.{zeros}
use Rattle.wasm_meaning.specs.Execution.{cells_of}
use Rattle.wasm_meaning.specs.Programs.{Program, defined}
use Rattle.wasm_meaning.specs.State.{Function, Fell, Trapped}
use Rattle.wasm_store.specs.View.{View}
use Rattle.wasm_states.specs.Calling.{has_room_for, entry_view}
use Rattle.wasm_states.specs.Holding.{IsState, free_moves}
use Rattle.wasm_states.specs.Steps.{Moves, Stops}
use Rattle.wasm_states.proofs.EntryMoves.{EntersWith, no_frames, no_entries, entry_moves, entry_stops, entry_known, entry_frees, all_ended}
use Rattle.wasm_states.proofs.StateLaws.{kept_state, holds_fits}
use Rattle.wasm_instance.specs.declared.callees.Shape.{Shape}
use Rattle.wasm_instance.specs.Callees.{shape_of}
use Rattle.wasm_step.specs.Arms.{before}
use Rattle.wasm_step.specs.Does.{Ends}
use Rattle.wasm_step.specs.Means.{NothingLeft}
use Rattle.wasm_step.specs.declared.answers.Step.{Step}
use Rattle.wasm_step.proofs.ControlArms.{Frees}

-- the function that has this shape
pub record Shaped (o : Option Function) (shape : Shape) : Type 0 where
  pub f : Function
  pub is : o ≡ Some f
  pub same : shape_of f ≡ shape

pub shaped : (o : Option Function) (shape : Shape) → option_map shape_of o ≡ Some shape → Shaped o shape
shaped None shape e = let bad : ⊥ = cc in absurd bad
shaped (Some f) shape e = let same : shape_of f ≡ shape = cc in record { f = f; is = refl; same = same }

pub next_known : (p : Program) (v : View) (body : ℕ) → IsState p v → length v.frames ≡ 0 → slice_get v.entries 0 ≡ Some body → body < length (defined p.linked)
next_known p v body state rests next = entry_known p v body state rests next

pub end_arm : (p : Program) (v : View) → length v.frames ≡ 0 → slice_get v.entries 0 ≡ None → NothingLeft (before v) × Stops p (before v) 0 Fell
end_arm p v rests next = (record { no_frames = no_frames v.frames rests; no_entries = no_entries v.entries next }, all_ended p (before v) rests next)

enters : (p : Program) (v : View) (body : ℕ) (f : Function) → length v.frames ≡ 0 → slice_get v.entries 0 ≡ Some body → slice_get (defined p.linked) body ≡ Some f → EntersWith p v body f
enters p v body f rests next known = record { none_live = rests; next = next; known = known }

pub exhausts_arm
    : (p : Program) (v : View) (body : ℕ) (shape : Shape) → length v.frames ≡ 0 → slice_get v.entries 0 ≡ Some body → option_map shape_of (slice_get (defined p.linked) body) ≡ Some shape
    → has_room_for shape.cells v ≡ false → (v.frames ≡ []) × Stops p v 0 (Trapped StackExhausted)
exhausts_arm p v body shape rests next is none =
    let s = shaped (slice_get (defined p.linked) body) shape is in
    let cells = ap (λ (x : Shape). x.cells) s.same in
    (no_frames v.frames rests, entry_stops p v body s.f (enters p v body s.f rests next s.is) (ap (λ (n : ℕ). has_room_for n v) cells ∙ none))

pub enter_arm
    : (p : Program) (v v' : View) (body : ℕ) (shape : Shape) → length v.frames ≡ 0 → slice_get v.entries 0 ≡ Some body → option_map shape_of (slice_get (defined p.linked) body) ≡ Some shape
    → has_room_for shape.cells v ≡ true → v' ≡ entry_view body shape.locals shape.cells v
    → Frees p v v'
enter_arm p v v' body shape rests next is room e =
    let s = shaped (slice_get (defined p.linked) body) shape is in
    let cells = ap (λ (x : Shape). x.cells) s.same in
    let moves = entry_moves p v body s.f (enters p v body s.f rests next s.is) (ap (λ (n : ℕ). has_room_for n v) cells ∙ room) in
    let there : v' ≡ entry_view body (length s.f.locals) (cells_of s.f) v = e ∙ ap (λ (x : Shape). entry_view body x.locals x.cells v) (sym s.same) in
    record {
      moves = subst (λ (x : View). Moves p v x 0) (sym there) moves;
      one_less = subst (λ (x : View). free_moves v ≡ free_moves x + 1) (sym e) (entry_frees v body shape.locals shape.cells next);
    }

pub length-zeros : (n : ℕ) → length (zeros n) ≡ n
length-zeros n = length-replicate n _

pub enter_zeros
    : (p : Program) (v : View) (body : ℕ) (shape : Shape) → IsState p v → length v.frames ≡ 0 → slice_get v.entries 0 ≡ Some body
    → option_map shape_of (slice_get (defined p.linked) body) ≡ Some shape → has_room_for shape.cells v ≡ true → length v.cells + shape.locals ≤ 65536
enter_zeros p v body shape state rests next is room =
    let view = entry_view body shape.locals shape.cells v in
    let frees = enter_arm p v view body shape rests next is room refl in
    let after = kept_state p v view 0 state frees.moves in
    let fits = holds_fits p view after.pending after.holds in
    let long = length-append (zeros shape.locals) v.cells in
    let count = length-zeros shape.locals in
    omega (arith, fits, long, count)

-- what a step at the end does, told of an equal vessel
pub ends_as : (p : Program) (u v v' : View) (answer : Step) → u ≡ v → Ends p u v' answer → Ends p v v' answer
ends_as p u v v' answer e ends = subst (λ (x : View). Ends p x v' answer) e ends

-- the room that the code has looked for
pub room_is : (found : Bool) (cells : ℕ) (v : View) → found ≡ has_room_for cells v → found ≡ true → has_room_for cells v ≡ true
room_is found cells v e is = sym e ∙ is

pub none_is : (found : Bool) (cells : ℕ) (v : View) → found ≡ has_room_for cells v → found ≡ false → has_room_for cells v ≡ false
none_is found cells v e is = sym e ∙ is
