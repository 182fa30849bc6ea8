-- Locals among the cells: they lie under the operands of their call and on all that is below it.
use Rattle.std.proofs.Common.{◌≡◌, ℕ, zero, suc, ◌+◌, ◌-◌, ◌<◌, ◌≤◌, List, [], ◌∷◌, ◌++◌, length, drop, reverse, Option, Some, slice_get, slice_set, refl, sym, ap, ◌∙◌, append_assoc, length-append, arith}
use Rattle.std.proofs.lemmas.List.{reverse-append, reverse-reverse, length-reverse}
use Rattle.wasm_ops.specs.declared.modules.Module.{Module}
use Rattle.wasm_ops.specs.Sequence.{Sequence}
use Rattle.wasm_meaning.specs.Pending.{Around, AroundBlock, AroundLoop, AroundCall, Entering}
use Rattle.wasm_meaning.specs.Programs.{Program}
use Rattle.wasm_meaning.specs.State.{Function, State}
use Rattle.wasm_meaning.specs.TypingOperands.{Walk}
use Rattle.wasm_meaning.specs.Values.{Value, number_in, numbers}
use Rattle.wasm_meaning.proofs.ModuleFacts.{get_behind}
use Rattle.wasm_pending.specs.Frames.{in_frame}
use Rattle.wasm_pending.specs.Steps.{pending_at}
use Rattle.wasm_pending.specs.Typed.{IsRanged, AreRanged, TypedAround}
use Rattle.wasm_store.specs.View.{View}
use Rattle.wasm_store.specs.declared.calls.Frame.{Frame}
use Rattle.wasm_states.proofs.ChainLaws.{length-numbers}
use Rattle.wasm_states.proofs.StateLaws.{room_of}
use Rattle.wasm_states.specs.Chains.{cells_under}
use Rattle.wasm_states.specs.Running.{Running}

-- Lists.

get_before : {A : Type 0} (xs ys : List A) (j : ℕ) → j < length xs → slice_get (xs ++ ys) j ≡ slice_get xs j
get_before [] ys j e = let bad : ⊥ = omega (arith, e) in absurd bad
get_before (x ∷ xs) ys zero e = refl
get_before (x ∷ xs) ys (suc j) e = get_before xs ys j (omega (arith, e))

set_before : (xs ys : List ℕ) (j n : ℕ) → j < length xs → slice_set (xs ++ ys) j n ≡ slice_set xs j n ++ ys
set_before [] ys j n e = let bad : ⊥ = omega (arith, e) in absurd bad
set_before (x ∷ xs) ys zero n e = refl
set_before (x ∷ xs) ys (suc j) n e = ap (λ (zs : List ℕ). x ∷ zs) (set_before xs ys j n (omega (arith, e)))

set_behind : (xs ys : List ℕ) (j n : ℕ) → slice_set (xs ++ ys) (length xs + j) n ≡ xs ++ slice_set ys j n
set_behind [] ys j n = let same : 0 + j ≡ j = omega arith in ap (λ (k : ℕ). slice_set ys k n) same
set_behind (x ∷ xs) ys j n =
    let same : suc (length xs) + j ≡ suc (length xs + j) = omega arith in
    ap (λ (k : ℕ). slice_set (x ∷ (xs ++ ys)) k n) same ∙ ap (λ (zs : List ℕ). x ∷ zs) (set_behind xs ys j n)

pub length_set : {A : Type 0} (xs : List A) (j : ℕ) (x : A) → length (slice_set xs j x) ≡ length xs
length_set [] j x = refl
length_set (y ∷ xs) zero x = refl
length_set (y ∷ xs) (suc j) x = ap suc (length_set xs j x)

pub numbers_set : (values : List Value) (j : ℕ) (value : Value) → numbers (slice_set values j value) ≡ slice_set (numbers values) j (number_in value)
numbers_set [] j value = refl
numbers_set (v ∷ values) zero value = refl
numbers_set (v ∷ values) (suc j) value = ap (λ (ns : List ℕ). number_in v ∷ ns) (numbers_set values j value)

pub numbers_get : (values : List Value) (j : ℕ) (value : Value) → slice_get values j ≡ Some value → slice_get (numbers values) j ≡ Some (number_in value)
numbers_get [] j value e = let bad : ⊥ = cc in absurd bad
numbers_get (v ∷ values) zero value e = let same : v ≡ value = cc in ap (λ (x : Value). Some (number_in x)) same
numbers_get (v ∷ values) (suc j) value e = numbers_get values j value e

pub set_ranged : (values : List Value) (j : ℕ) (value : Value) → AreRanged values → IsRanged value → AreRanged (slice_set values j value)
set_ranged [] j value all is = tt
set_ranged (v ∷ values) zero value all is = (is, all.1)
set_ranged (v ∷ values) (suc j) value all is = (all.0, set_ranged values j value all.1 is)

-- a value in the place of the top cell
pub set_top : (cells : List ℕ) (n : ℕ) → 0 < length cells → reverse (slice_set (reverse cells) (length cells - 1) n) ≡ n ∷ drop 1 cells
set_top [] n some = let bad : ⊥ = omega (arith, some) in absurd bad
set_top (c ∷ cells) n some =
    let long = length-reverse cells in
    let place : length (c ∷ cells) - 1 ≡ length (reverse cells) + 0 = omega (arith, long) in
    ap (λ (k : ℕ). reverse (slice_set (reverse (c ∷ cells)) k n)) place
    ∙ ap (λ (ns : List ℕ). reverse (slice_set ns (length (reverse cells) + 0) n)) (reverse-append (c ∷ []) cells)
    ∙ ap (λ (ns : List ℕ). reverse ns) (set_behind (reverse cells) (c ∷ []) 0 n)
    ∙ reverse-append (reverse cells) (n ∷ [])
    ∙ ap (λ (ns : List ℕ). n ∷ ns) (reverse-reverse cells)

-- Cells that lie between others.

turned : (top locals low : List ℕ) → reverse (top ++ (reverse locals ++ low)) ≡ reverse low ++ (locals ++ reverse top)
turned top locals low =
    reverse-append top (reverse locals ++ low)
    ∙ ap (λ (ns : List ℕ). ns ++ reverse top) (reverse-append (reverse locals) low ∙ ap (λ (ns : List ℕ). reverse low ++ ns) (reverse-reverse locals))
    ∙ append_assoc (reverse low) locals (reverse top)

at_base : (low : List ℕ) (j : ℕ) → length low + j ≡ length (reverse low) + j
at_base low j = ap (λ (n : ℕ). n + j) (sym (length-reverse low))

pub cell_between : (top locals low : List ℕ) (j : ℕ) → j < length locals → slice_get (reverse (top ++ (reverse locals ++ low))) (length low + j) ≡ slice_get locals j
cell_between top locals low j within =
    ap (λ (ns : List ℕ). slice_get ns (length low + j)) (turned top locals low)
    ∙ ap (λ (k : ℕ). slice_get (reverse low ++ (locals ++ reverse top)) k) (at_base low j)
    ∙ get_behind (reverse low) (locals ++ reverse top) j
    ∙ get_before locals (reverse top) j within

pub set_between
    : (top locals low : List ℕ) (j n : ℕ) → j < length locals
    → reverse (slice_set (reverse (top ++ (reverse locals ++ low))) (length low + j) n) ≡ top ++ (reverse (slice_set locals j n) ++ low)
set_between top locals low j n within =
    ap (λ (ns : List ℕ). reverse (slice_set ns (length low + j) n)) (turned top locals low)
    ∙ ap (λ (k : ℕ). reverse (slice_set (reverse low ++ (locals ++ reverse top)) k n)) (at_base low j)
    ∙ ap (λ (ns : List ℕ). reverse ns) (set_behind (reverse low) (locals ++ reverse top) j n)
    ∙ ap (λ (ns : List ℕ). reverse (reverse low ++ ns)) (set_before locals (reverse top) j n within)
    ∙ back (slice_set locals j n)
  where
    back : (ls : List ℕ) → reverse (reverse low ++ (ls ++ reverse top)) ≡ top ++ (reverse ls ++ low)
    back ls =
        reverse-append (reverse low) (ls ++ reverse top)
        ∙ ap (λ (ns : List ℕ). reverse (ls ++ reverse top) ++ ns) (reverse-reverse low)
        ∙ ap (λ (ns : List ℕ). ns ++ low) (reverse-append ls (reverse top) ∙ ap (λ (ns : List ℕ). ns ++ reverse ls) (reverse-reverse top))
        ∙ append_assoc top (reverse ls) low

-- Locals.

-- the cells of the blocks around, and those below the locals
abbrev front_of : List Around → List ℕ
front_of [] = []
front_of (AroundBlock t base rest ∷ around) = numbers base ++ front_of around
front_of (AroundLoop t base body rest ∷ around) = numbers base ++ front_of around
front_of (AroundCall t function caller rest ∷ around) = []
front_of (Entering function ∷ around) = []

abbrev low_of : List Around → List ℕ
low_of [] = []
low_of (AroundBlock t base rest ∷ around) = low_of around
low_of (AroundLoop t base body rest ∷ around) = low_of around
low_of (AroundCall t function caller rest ∷ around) = numbers caller.operands ++ cells_under caller.frame.locals around
low_of (Entering function ∷ around) = []

split_at
    : (m : Module) (f : Function) (end : Walk) (around : List Around) (values : List Value) → TypedAround m f end around
    → cells_under values around ≡ front_of around ++ (reverse (numbers values) ++ low_of around)
split_at m f end [] values outside = absurd outside
split_at m f end (AroundBlock t base rest ∷ around) values outside =
    ap (λ (ns : List ℕ). numbers base ++ ns) (split_at m f outside.0.last around values outside.1)
    ∙ sym (append_assoc (numbers base) (front_of around) (reverse (numbers values) ++ low_of around))
split_at m f end (AroundLoop t base body rest ∷ around) values outside =
    ap (λ (ns : List ℕ). numbers base ++ ns) (split_at m f outside.0.last around values outside.1)
    ∙ sym (append_assoc (numbers base) (front_of around) (reverse (numbers values) ++ low_of around))
split_at m f end (AroundCall t function caller rest ∷ around) values outside = refl
split_at m f end (Entering function ∷ around) values outside = absurd outside

length_front : (around : List Around) → length (front_of around) ≡ in_frame around
length_front [] = refl
length_front (AroundBlock t base rest ∷ around) = omega (arith, length-append (numbers base) (front_of around), length-numbers base, length_front around)
length_front (AroundLoop t base body rest ∷ around) = omega (arith, length-append (numbers base) (front_of around), length-numbers base, length_front around)
length_front (AroundCall t function caller rest ∷ around) = refl
length_front (Entering function ∷ around) = refl

-- where the locals of the call that runs lie
pub record Lying (v : View) (st : State) (around : List Around) (f : Frame) : Type 0 where
  pub front : List ℕ
  pub low : List ℕ
  pub under : (values : List Value) → cells_under values around ≡ front ++ (reverse (numbers values) ++ low)
  pub base : f.base ≡ length low
  pub many : f.base + length st.frame.locals ≤ length v.cells
  pub free : f.base + length st.frame.locals + length st.operands ≤ length v.cells

pub lying
    : (p : Program) (v : View) (s : Sequence) (around : List Around) (st : State) (f : Frame) → Running p v (pending_at s around st) → slice_get v.frames 0 ≡ Some f
    → Lying v st around f
lying p v s around st f r found =
    let room = room_of p v (pending_at s around st) r in
    let same : room.f ≡ f = given room.f f (slice_get v.frames 0) room.found found in
    let whole = split_at p.linked r.typing.runs r.typing.last around st.frame.locals r.typing.outside in
    let long = ap (λ (ns : List ℕ). length ns) (r.cells ∙ ap (λ (ns : List ℕ). numbers st.operands ++ ns) whole) in
    let base_is = ap (λ (g : Frame). g.base) same in
    let cells = room.cells in
    record {
      front = front_of around;
      low = low_of around;
      under = λ values. split_at p.linked r.typing.runs r.typing.last around values r.typing.outside;
      base = omega (
        arith,
        long,
        cells,
        base_is,
        length-append (numbers st.operands) (front_of around ++ (reverse (numbers st.frame.locals) ++ low_of around)),
        length-append (front_of around) (reverse (numbers st.frame.locals) ++ low_of around),
        length-append (reverse (numbers st.frame.locals)) (low_of around),
        length-reverse (numbers st.frame.locals),
        length-numbers st.frame.locals,
        length-numbers st.operands,
        length_front around,
      );
      many = omega (arith, cells, base_is);
      free = omega (arith, cells, base_is);
    }
  where
    given : (a b : Frame) (o : Option Frame) → o ≡ Some a → o ≡ Some b → a ≡ b
    given a b o e g = cc

-- a local's cell, and the cells with another number there
pub local_cell
    : (cells : List ℕ) (operands locals : List Value) (front low : List ℕ) (base j n : ℕ) (value : Value) → cells ≡ numbers operands ++ (front ++ (reverse (numbers locals) ++ low))
    → base ≡ length low → slice_get locals j ≡ Some value → j < length locals → slice_get (reverse cells) (base + j) ≡ Some n → n ≡ number_in value
local_cell cells operands locals front low base j n value are base_is found within top =
    let whole : cells ≡ (numbers operands ++ front) ++ (reverse (numbers locals) ++ low) = are ∙ sym (append_assoc (numbers operands) front (reverse (numbers locals) ++ low)) in
    let here : slice_get (reverse cells) (base + j) ≡ slice_get (numbers locals) j =
    ap (λ (ns : List ℕ). slice_get (reverse ns) (base + j)) whole
    ∙ ap (λ (k : ℕ). slice_get (reverse ((numbers operands ++ front) ++ (reverse (numbers locals) ++ low))) (k + j)) base_is
    ∙ cell_between (numbers operands ++ front) (numbers locals) low j (omega (arith, within, length-numbers locals)) in
    same n (number_in value) (slice_get (reverse cells) (base + j)) top (here ∙ numbers_get locals j value found)
  where
    same : (a b : ℕ) (o : Option ℕ) → o ≡ Some a → o ≡ Some b → a ≡ b
    same a b o e f = cc

pub local_set_cell
    : (cells : List ℕ) (operands locals : List Value) (front low : List ℕ) (base j : ℕ) (value : Value) → cells ≡ numbers operands ++ (front ++ (reverse (numbers locals) ++ low))
    → base ≡ length low → j < length locals
    → reverse (slice_set (reverse cells) (base + j) (number_in value)) ≡ numbers operands ++ (front ++ (reverse (numbers (slice_set locals j value)) ++ low))
local_set_cell cells operands locals front low base j value are base_is within =
    let whole : cells ≡ (numbers operands ++ front) ++ (reverse (numbers locals) ++ low) = are ∙ sym (append_assoc (numbers operands) front (reverse (numbers locals) ++ low)) in
    ap (λ (ns : List ℕ). reverse (slice_set (reverse ns) (base + j) (number_in value))) whole
    ∙ ap (λ (k : ℕ). reverse (slice_set (reverse ((numbers operands ++ front) ++ (reverse (numbers locals) ++ low))) (k + j) (number_in value))) base_is
    ∙ set_between (numbers operands ++ front) (numbers locals) low j (number_in value) (omega (arith, within, length-numbers locals))
    ∙ append_assoc (numbers operands) front (reverse (slice_set (numbers locals) j (number_in value)) ++ low)
    ∙ ap (λ (ns : List ℕ). numbers operands ++ (front ++ (reverse ns ++ low))) (sym (numbers_set locals j value))
