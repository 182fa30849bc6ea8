-- A recursion of 4,096 frames, which is too long to be computed: each depth of it is followed by the one below.
use Rattle.std.proofs.Common.{◌≡◌, ℕ, zero, suc, ◌+◌, ◌-◌, ◌*◌, ◌%◌, ◌^◌, ◌<◌, ◌≤◌, ◌==◌, Bool, true, false, ◌&&◌, nat_lt, nat_le, List, [], ◌∷◌, ◌++◌, sum, Some, None, refl, ap, ◌∙◌, arith}
use Rattle.std.proofs.lemmas.Bool.Decides.{nat_tests}
use Rattle.wasm_ops.specs.Sequence.{Sequence, Done, Plain}
use Rattle.wasm_ops.specs.declared.operators.Op.TheVariants.{Call, LocalGet, ConstI32, Binary}
use Rattle.wasm_ops.specs.declared.traps.Trap.TheVariants.{StackExhausted}
use Rattle.wasm_ops.specs.declared.types.ValType.TheVariants.{I32}
use Rattle.wasm_meaning.specs.Execution.{pay_if, pay, call, call_within, close_block, close_call, caller_of, choose, choose_by, has_room, in_block, walk, exec}
use Rattle.wasm_meaning.specs.State.{Function, State, Fell, Trapped, Run, Go, Runner, ends, paid, after, push}
use Rattle.wasm_meaning.specs.Values.{Int32}
use Rattle.wasm_meaning.specs.Pending.{Pending, entering, onward}
use Rattle.wasm_meaning.proofs.Budgets.{not_short, onward_agrees, onward_balances}
use Rattle.wasm_meaning.proofs.CallExamples.{counting, deep}
use Rattle.wasm_meaning.proofs.Examples.{function, idle, no_store}

abbrev self : Function
self = function (I32 ∷ []) [] None [] counting

-- what is paid for
abbrev inner : Sequence
inner = Plain (LocalGet 0) (Plain (ConstI32 1) (Plain (Binary 0x6B) (Plain (Call 1) Done)))

pay_enough : (st : State) (left : ℕ) (go : ℕ → Run) → 1 ≤ left → pay 1 st left go ≡ paid (1 ∷ []) (go (left - 1))
pay_enough st left go e = ap (λ (b : Bool). pay_if b 1 st left go) (not_short left 1 e)

not_zero : (m : ℕ) → suc m == 0 ≡ false
not_zero m = grind (arith, nat_tests)

one_less : (m : ℕ) → suc m < 2 ^ 32 → (suc m + 2 ^ 32 - 1) % 2 ^ 32 ≡ m
one_less m e = omega (arith, e)

-- the run went on from this state, with so much less
record Comes (r : Run) (next : Go) (st : State) (left : ℕ) : Type 0 where
  prices : List ℕ
  is : r ≡ paid prices (next st left)

-- in the function, with its argument
abbrev in_call : State → ℕ → State
in_call st n = record {
  operands = [];
  frame = record { locals = Int32 n ∷ []; targets = [] };
  frames = st.frames + 1;
  cells = st.cells + 4;
  store = st.store;
}

module _ (k : ℕ) (again : Runner) where
  -- the last depth
  last_body : (st : State) (left : ℕ) → 2 ≤ left → walk (deep k) again counting (in_call st 0) left ≡ paid (1 ∷ 1 ∷ []) (ends Fell (in_call st 0) (left - 1 - 1))
  last_body st left e =
      pay_enough (in_call st 0) left _ (omega (arith, e))
      ∙ ap (λ (r : Run). paid (1 ∷ []) r) (pay_enough (push (Int32 0) (in_call st 0)) (left - 1) _ (omega (arith, e)))

  -- each other one, up to its call
  one_body
      : (m : ℕ) (st : State) (left : ℕ) → 2 ≤ left
      → walk (deep k) again counting (in_call st (suc m)) left
      ≡ paid (1 ∷ 1 ∷ []) (after (walk (deep k) again inner (in_call st (suc m)) (left - 1 - 1)) (close_block None [] (walk (deep k) again Done)))
  one_body m st left e =
      pay_enough (in_call st (suc m)) left _ (omega (arith, e))
      ∙ ap (λ (r : Run). paid (1 ∷ []) r) (pay_enough (push (Int32 (suc m)) (in_call st (suc m))) (left - 1) (choose (Some (record { number = suc m; under = [] })) then_way else_way (push (Int32 (suc m)) (in_call st (suc m)))) (omega (arith, e)))
      ∙ ap (λ (b : Bool). paid (1 ∷ 1 ∷ []) (choose_by b then_way else_way (in_call st (suc m)) (left - 1 - 1))) (not_zero m)
    where
      else_way : Go
      else_way = walk (deep k) again Done

      then_way : Go
      then_way = in_block None (walk (deep k) again inner) else_way

  up_to_call
      : (m : ℕ) (st : State) (left : ℕ) → 4 ≤ left → suc m < 2 ^ 32
      → walk (deep k) again inner (in_call st (suc m)) left
      ≡ paid (1 ∷ 1 ∷ 1 ∷ 1 ∷ []) (call again self (walk (deep k) again Done) (push (Int32 m) (in_call st (suc m))) (left - 1 - 1 - 1 - 1))
  up_to_call m st left e small =
      pay_enough (in_call st (suc m)) left _ (omega (arith, e))
      ∙ ap (λ (r : Run). paid (1 ∷ []) r) (pay_enough (push (Int32 (suc m)) (in_call st (suc m))) (left - 1) _ (omega (arith, e)))
      ∙ ap (λ (r : Run). paid (1 ∷ 1 ∷ []) r) (pay_enough (push (Int32 1) (push (Int32 (suc m)) (in_call st (suc m)))) (left - 1 - 1) _ (omega (arith, e)))
      ∙ ap (λ (n : ℕ). paid (1 ∷ 1 ∷ 1 ∷ []) (walk (deep k) again (Plain (Call 1) Done) (push (Int32 n) (in_call st (suc m))) (left - 1 - 1 - 1))) (one_less m small)
      ∙ ap (λ (r : Run). paid (1 ∷ 1 ∷ 1 ∷ []) r) (pay_enough (push (Int32 m) (in_call st (suc m))) (left - 1 - 1 - 1) _ (omega (arith, e)))

-- Each depth comes back.

both_hold : (b c : Bool) → b ≡ true → c ≡ true → b && c ≡ true
both_hold true c e f = f
both_hold false c e f = let bad : ⊥ = cc in absurd bad

in_room : (st : State) → st.frames < 4096 → st.cells + 4 ≤ 65536 → has_room st self ≡ true
in_room st frames cells =
    let first : nat_lt st.frames 4096 ≡ true = grind (arith, nat_tests) in
    let second : nat_le (st.cells + 4) 65536 ≡ true = grind (arith, nat_tests) in
    both_hold (nat_lt st.frames 4096) (nat_le (st.cells + 4) 65536) first second

-- back in the caller
leaves
    : (n : ℕ) (st : State) (next : Go) (prices : List ℕ) (l l' : ℕ) → l ≡ l'
    → Comes (after (paid prices (ends Fell (in_call st n) l)) (close_call None (caller_of (push (Int32 n) st) st.operands) next)) next st l'
leaves n st next prices l l' same = record {
  prices = prices ++ [];
  is = ap (λ (frames : ℕ). paid (prices ++ []) (next (record st { frames = frames }) l)) (back st.frames)
      ∙ ap (λ (m : ℕ). paid (prices ++ []) (next st m)) same;
}
  where
    back : (frames : ℕ) → frames + 1 - 1 ≡ frames
    back frames = omega arith

abbrev deeper : ℕ → ℕ → ℕ
deeper zero b = suc b
deeper (suc n) b = suc (deeper n b)

-- a call whose frame has room
called
    : (k n : ℕ) (again : Runner) (st : State) (next : Go) (left : ℕ) (prices : List ℕ) (l l' : ℕ) → st.frames < 4096 → st.cells + 4 ≤ 65536 → l ≡ l'
    → again counting (in_call st n) left ≡ paid prices (ends Fell (in_call st n) l)
    → Comes (call again self next (push (Int32 n) st) left) next st l'
called k n again st next left prices l l' frames cells same body =
    let c = leaves n st next prices l l' same in
    record {
      prices = c.prices;
      is = ap (λ (b : Bool). call_within b (record { arguments = Int32 n ∷ []; under = st.operands }) again self next (push (Int32 n) st) left) (in_room (push (Int32 n) st) frames cells)
          ∙ ap (λ (r : Run). after r (close_call None (caller_of (push (Int32 n) st) st.operands) next)) body
          ∙ c.is;
    }

comes
    : (k n b : ℕ) (st : State) (next : Go) (left : ℕ) → n < 2 ^ 32 → 6 * n + 2 ≤ left → st.frames + n < 4096 → st.cells + (4 * n + 4) ≤ 65536
    → Comes (call (exec (deep k) (deeper n b)) self next (push (Int32 n) st) left) next st (left - (6 * n + 2))
comes k zero b st next left small enough frames cells =
    called k 0 (exec (deep k) (suc b)) st next left (1 ∷ 1 ∷ []) (left - 1 - 1) (left - (6 * 0 + 2)) (omega (arith, frames)) (omega (arith, cells)) (omega arith)
    (last_body k (exec (deep k) b) st left (omega (arith, enough)))
comes k (suc m) b st next left small enough frames cells =
    let again = exec (deep k) (deeper m b) in
    let below = in_call st (suc m) in
    let l = left - 1 - 1 - 1 - 1 - 1 - 1 in
    let c = comes k m b below (walk (deep k) again Done) l (omega (arith, small)) (omega (arith, enough)) (omega (arith, frames)) (omega (arith, cells)) in
    called k (suc m) (exec (deep k) (suc (deeper m b))) st next left (1 ∷ 1 ∷ 1 ∷ 1 ∷ 1 ∷ 1 ∷ (c.prices ++ [])) (l - (6 * m + 2)) (left - (6 * suc m + 2))
    (omega (arith, frames)) (omega (arith, cells)) (omega arith)
    (one_body k again m st left (omega (arith, enough))
    ∙ ap (λ (r : Run). paid (1 ∷ 1 ∷ []) (after r (close_block None [] (walk (deep k) again Done)))) (up_to_call k again m st (left - 1 - 1) (omega (arith, enough)) small)
    ∙ ap (λ (r : Run). paid (1 ∷ 1 ∷ []) (after (paid (1 ∷ 1 ∷ 1 ∷ 1 ∷ []) r) (close_block None [] (walk (deep k) again Done)))) c.is)

-- The whole run.

abbrev from_idle : Pending
from_idle = record { sequence = Done; around = entering (0 ∷ []); state = idle no_store }

-- in the first function
abbrev in_first : State
in_first = record { operands = []; frame = record { locals = []; targets = [] }; frames = 1; cells = 3; store = no_store }

abbrev first_body : ℕ → Sequence
first_body n = Plain (ConstI32 n) (Plain (Call 1) Done)

begins
    : (n : ℕ) (again : Runner) (left : ℕ) → 2 ≤ left
    → walk (deep n) again (first_body n) in_first left
    ≡ paid (1 ∷ 1 ∷ []) (call again self (walk (deep n) again Done) (push (Int32 n) in_first) (left - 1 - 1))
begins n again left e =
    pay_enough in_first left _ (omega (arith, e))
    ∙ ap (λ (r : Run). paid (1 ∷ []) r) (pay_enough (push (Int32 n) in_first) (left - 1) _ (omega (arith, e)))

deeper_more : (n b : ℕ) → b ≤ deeper n b
deeper_more zero b = omega arith
deeper_more (suc n) b = let more = deeper_more n b in omega (arith, more)

record Ends (r : Run) (left : ℕ) : Type 0 where
  falls : r.outcome ≡ Fell
  rest : r.left ≡ left

ends_so : (n b left : ℕ) → n ≤ 4094 → 6 * n + 4 ≤ left → Ends (onward (deep n) (suc (deeper n b)) from_idle left) (left - (6 * n + 4))
ends_so n b left few enough =
    let again = exec (deep n) (deeper n b) in
    let next = walk (deep n) (exec (deep n) (suc (deeper n b))) Done in
    let c = comes n n b in_first (walk (deep n) again Done) (left - 1 - 1) (omega (arith, few)) (omega (arith, enough)) (omega (arith, few)) (omega (arith, few)) in
    let body = begins n again left (omega (arith, enough)) ∙ ap (λ (r : Run). paid (1 ∷ 1 ∷ []) r) c.is in
    let whole = ap (λ (r : Run). after r (close_call None (caller_of (idle no_store) []) next)) body in
    let place : left - 1 - 1 - (6 * n + 2) ≡ left - (6 * n + 4) = omega arith in
    record { falls = ap (λ (r : Run). r.outcome) whole; rest = ap (λ (r : Run). r.left) whole ∙ place }

-- a run of so many units, however deep the bound
record Costs (r : Run) (units : ℕ) : Type 0 where
  falls : r.outcome ≡ Fell
  cost : sum r.prices ≡ units

recursion_costs : (n bound left : ℕ) → n ≤ 4094 → 6 * n + 4 ≤ left → left ≤ bound → Costs (onward (deep n) bound from_idle left) (6 * n + 4)
recursion_costs n bound left few enough fits =
    let e = ends_so n left left few enough in
    let more = deeper_more n left in
    let same = onward_agrees (deep n) from_idle left bound (suc (deeper n left)) fits (omega (arith, more)) in
    let balance = (onward_balances (deep n) bound from_idle left).sum_is in
    let rest = ap (λ (r : Run). r.left) same ∙ e.rest in
    record { falls = ap (λ (r : Run). r.outcome) same ∙ e.falls; cost = omega (arith, balance, rest, enough) }

-- 4,096 frames: the first function and 4,095 calls of the other one
all_frames : (bound left : ℕ) → 24568 ≤ left → left ≤ bound → Costs (onward (deep 4094) bound from_idle left) 24568
all_frames bound left enough fits = recursion_costs 4094 bound left (omega arith) enough fits

-- One call deeper.

record TrapsAt (r : Run) (left : ℕ) : Type 0 where
  prices : List ℕ
  state : State
  is : r ≡ paid prices (ends (Trapped StackExhausted) state left)

-- so much more than the depth
abbrev plus : ℕ → ℕ → ℕ
plus zero more = more
plus (suc depth) more = suc (plus depth more)

no_room : (st : State) → st.frames ≡ 4096 → has_room st self ≡ false
no_room st frames =
    let first : nat_lt st.frames 4096 ≡ false = grind (arith, nat_tests) in
    ap (λ (b : Bool). b && nat_le (st.cells + 4) 65536) first

same_end : (r : Run) (prices : List ℕ) (state : State) (l l' : ℕ) → l ≡ l' → r ≡ paid prices (ends (Trapped StackExhausted) state l) → TrapsAt r l'
same_end r prices state l l' same e =
    record { prices = prices; state = state; is = e ∙ ap (λ (m : ℕ). paid prices (ends (Trapped StackExhausted) state m)) same }

traps
    : (k more depth b : ℕ) (st : State) (next : Go) (left : ℕ) → plus depth more < 2 ^ 32 → 6 * depth ≤ left → st.frames + depth ≡ 4096
    → st.cells + (4 * depth + 4) ≤ 65536
    → TrapsAt (call (exec (deep k) (deeper depth b)) self next (push (Int32 (plus depth more)) st) left) (left - 6 * depth)
traps k more zero b st next left small enough frames cells =
    same_end (call (exec (deep k) (suc b)) self next (push (Int32 more) st) left) [] (push (Int32 more) st) left (left - 6 * 0) (omega arith)
    (ap (λ (room : Bool). call_within room (record { arguments = Int32 more ∷ []; under = st.operands }) (exec (deep k) (suc b)) self next (push (Int32 more) st) left)
    (no_room (push (Int32 more) st) (omega (arith, frames))))
traps k more (suc depth) b st next left small enough frames cells =
    let again = exec (deep k) (deeper depth b) in
    let n = plus depth more in
    let below = in_call st (suc n) in
    let l = left - 1 - 1 - 1 - 1 - 1 - 1 in
    let c = traps k more depth b below (walk (deep k) again Done) l (omega (arith, small)) (omega (arith, enough)) (omega (arith, frames)) (omega (arith, cells)) in
    let body =
    one_body k again n st left (omega (arith, enough))
    ∙ ap (λ (r : Run). paid (1 ∷ 1 ∷ []) (after r (close_block None [] (walk (deep k) again Done)))) (up_to_call k again n st (left - 1 - 1) (omega (arith, enough)) small)
    ∙ ap (λ (r : Run). paid (1 ∷ 1 ∷ []) (after (paid (1 ∷ 1 ∷ 1 ∷ 1 ∷ []) r) (close_block None [] (walk (deep k) again Done)))) c.is in
    same_end (call (exec (deep k) (suc (deeper depth b))) self next (push (Int32 (suc n)) st) left) (1 ∷ 1 ∷ 1 ∷ 1 ∷ 1 ∷ 1 ∷ ((c.prices ++ []) ++ [])) c.state (l - 6 * depth) (left - 6 * suc depth) (omega arith)
    (ap (λ (room : Bool). call_within room (record { arguments = Int32 (suc n) ∷ []; under = st.operands }) (exec (deep k) (suc (deeper depth b))) self next (push (Int32 (suc n)) st) left)
    (in_room (push (Int32 (suc n)) st) (omega (arith, frames)) (omega (arith, cells)))
    ∙ ap (λ (r : Run). after r (close_call None (caller_of (push (Int32 (suc n)) st) st.operands) next)) body)

record Overflows (r : Run) (units : ℕ) : Type 0 where
  traps_so : r.outcome ≡ Trapped StackExhausted
  cost : sum r.prices ≡ units

-- the first function and 4,095 calls of the other one, of which the last calls once more
one_frame_more
    : (more bound left : ℕ) → plus 4095 more < 2 ^ 32 → 24572 ≤ left → left ≤ bound → Overflows (onward (deep (plus 4095 more)) bound from_idle left) 24572
one_frame_more more bound left small enough fits =
    overflow_costs 4095 more bound left refl small enough fits
  where
    overflow_costs
        : (depth more bound left : ℕ) → depth ≡ 4095 → plus depth more < 2 ^ 32 → 24572 ≤ left → left ≤ bound
        → Overflows (onward (deep (plus depth more)) bound from_idle left) 24572
    overflow_costs depth more bound left is small enough fits =
        let n = plus depth more in
        let again = exec (deep n) (deeper depth left) in
        let next = walk (deep n) (exec (deep n) (suc (deeper depth left))) Done in
        let c = traps n more depth left in_first (walk (deep n) again Done) (left - 1 - 1) small (omega (arith, is, enough)) (omega (arith, is)) (omega (arith, is)) in
        let body = begins n again left (omega (arith, enough)) ∙ ap (λ (r : Run). paid (1 ∷ 1 ∷ []) r) c.is in
        let whole = ap (λ (r : Run). after r (close_call None (caller_of (idle no_store) []) next)) body in
        let deep_enough = deeper_more depth left in
        let same = onward_agrees (deep n) from_idle left bound (suc (deeper depth left)) fits (omega (arith, deep_enough)) in
        let balance = (onward_balances (deep n) bound from_idle left).sum_is in
        let rest = ap (λ (r : Run). r.left) same ∙ ap (λ (r : Run). r.left) whole in
        record { traps_so = ap (λ (r : Run). r.outcome) same ∙ ap (λ (r : Run). r.outcome) whole; cost = omega (arith, balance, rest, enough, is) }
