-- Parts of runs that follow one another.
use Rattle.std.proofs.Common.{◌≡◌, ◌⊎◌, inl, inr, ℕ, zero, suc, ◌+◌, ◌-◌, ◌≤◌, ◌<◌, ◌^◌, List, [], ◌∷◌, ◌++◌, length, sum, refl, sym, ap, subst, ◌∙◌, append_assoc, append-nil, arith}
use Rattle.wasm_ops.specs.declared.traps.Trap.{Trap}
use Rattle.wasm_meaning.specs.HostCalls.{Streams}
use Rattle.wasm_meaning.specs.Pending.{Pending, onward}
use Rattle.wasm_meaning.specs.Programs.{Program, instance_of}
use Rattle.wasm_meaning.specs.State.{Outcome, Fell, Trapped, Exited, Spent, Run, paid}
use Rattle.wasm_meaning.specs.Turns.{turns, IsShortest}
use Rattle.wasm_store.specs.View.{View}
use Rattle.wasm_states.specs.Holding.{Holds, IsState, free_moves}
use Rattle.wasm_states.specs.Steps.{item, RunsOn, IsOver, RunsOut, Reaches as StepReaches, Pays, Lacks}
use Rattle.sandbox_states.proofs.GroupLaws.{sum_cons, sum_join, sum_one, all_paid, turn_below, turn_with, last_group, cut_then, one_cut, reached_cut}
use Rattle.sandbox_states.specs.Paths.{outcome_of, last_items, Closes, Onwards, Path, ClosesAt, Paying, Reaches, Finishes, GoesOn, EndsFree}
use Rattle.sandbox_states.specs.Rests.{ArePaid}
use Rattle.sandbox_states.specs.declared.runs.Ending.{Ending}
use Rattle.sandbox_states.specs.declared.runs.Ending.TheVariants as ending

paid_again : (front more : List ℕ) (r : Run) → paid front (paid more r) ≡ paid (front ++ more) r
paid_again front more r = ap (λ (ps : List ℕ). record r { prices = ps }) (sym (append_assoc front more r.prices))

item_one : (price : ℕ) → 1 ≤ price → item price ≡ price ∷ []
item_one zero least = let bad : ⊥ = omega (arith, least) in absurd bad
item_one (suc n) least = refl

pub onwards_none : (p : Program) (w : Pending) → Onwards p w [] w
onwards_none p w = record {
  least = tt;
  same = λ bound left fits.
      let none : sum [] + left ≡ left = omega arith in
      ap (λ (l : ℕ). onward (instance_of p) bound w l) none;
}

pub onwards_then : (p : Program) (w w1 w2 : Pending) (one two : List ℕ) → Onwards p w one w1 → Onwards p w1 two w2 → Onwards p w (one ++ two) w2
onwards_then p w w1 w2 one two a b = record {
  least = all_paid one two a.least b.least;
  same = λ bound left fits.
      let total = sum_join one two in
      let whole : sum (one ++ two) + left ≡ sum one + (sum two + left) = omega (arith, total) in
      ap (λ (l : ℕ). onward (instance_of p) bound w l) whole
      ∙ a.same bound (sum two + left) (omega (arith, fits, total))
      ∙ ap (λ (r : Run). paid one r) (b.same bound left (omega (arith, fits, total)))
      ∙ paid_again one two (onward (instance_of p) bound w2 left);
}

-- One operator.

pub price_onwards
    : (p : Program) (w w' : Pending) (price : ℕ) → 1 ≤ price
    → ((bound left : ℕ) → price + left ≤ bound → onward (instance_of p) bound w (price + left) ≡ paid (item price) (onward (instance_of p) bound w' left))
    → Onwards p w (price ∷ []) w'
price_onwards p w w' price least same = record {
  least = (least, tt);
  same = λ bound left fits.
      let one = sum_one price in
      ap (λ (n : ℕ). onward (instance_of p) bound w (n + left)) one
      ∙ same bound left (omega (arith, fits, one))
      ∙ ap (λ (ps : List ℕ). paid ps (onward (instance_of p) bound w' left)) (item_one price least);
}

free_onwards
    : (p : Program) (w w' : Pending)
    → ((bound left : ℕ) → 0 + left ≤ bound → onward (instance_of p) bound w (0 + left) ≡ paid [] (onward (instance_of p) bound w' left))
    → Onwards p w [] w'
free_onwards p w w' same = record {
  least = tt;
  same = λ bound left fits.
      let none : sum [] + left ≡ 0 + left = omega arith in
      ap (λ (l : ℕ). onward (instance_of p) bound w l) none ∙ same bound left (omega (arith, fits));
}

-- an operator that was paid, and a move for nothing
pub paid_path : (p : Program) (w : Pending) (price : ℕ) (v' : View) (streams : Streams) → 1 ≤ price → w.state.store.streams ≡ streams → StepReaches p w price v' → Path p w (price ∷ []) v' streams
paid_path p w price v' streams least same r =
    record { next = r.pending; holds = r.holds; streams_are = r.runs.streams ∙ same; onwards = price_onwards p w r.pending price least r.runs.same }

pub free_path : (p : Program) (w : Pending) (v' : View) (streams : Streams) → w.state.store.streams ≡ streams → StepReaches p w 0 v' → Path p w [] v' streams
free_path p w v' streams same r =
    record { next = r.pending; holds = r.holds; streams_are = r.runs.streams ∙ same; onwards = free_onwards p w r.pending r.runs.same }

pub stays_path : (p : Program) (w : Pending) (v' : View) (streams : Streams) → Holds p v' w → w.state.store.streams ≡ streams → Path p w [] v' streams
stays_path p w v' streams holds same = record { next = w; holds = holds; streams_are = same; onwards = onwards_none p w }

-- the run is over: told by what is left behind the operator
pub over_closes
    : (p : Program) (w : Pending) (left price : ℕ) (end : Ending) (streams : Streams) → price ≤ left
    → ((bound rest : ℕ) → price + rest ≤ bound → IsOver (onward (instance_of p) bound w (price + rest)) (outcome_of end) (item price) rest streams)
    → last_items end price ≡ item price
    → ClosesAt p w left end (last_items end price) streams
over_closes p w left price end streams within over items = record {
  at = λ bound fits.
      let whole : price + (left - price) ≡ left = omega (arith, within) in
      let o = over bound (left - price) (omega (arith, whole, fits)) in
      subst (λ (l : ℕ). Closes (onward (instance_of p) bound w l) end (last_items end price) streams) whole
      (record { outcome_is = o.outcome_is; prices_are = o.prices_are ∙ sym items; reply_is = ap (λ (s : Streams). s.reply) o.streams_are });
}

pub spent_closes
    : (p : Program) (w : Pending) (left : ℕ) (streams : Streams)
    → ((bound : ℕ) → IsOver (onward (instance_of p) bound w left) Spent (0 ∷ []) left streams)
    → ClosesAt p w left ending.Spent (0 ∷ []) streams
spent_closes p w left streams over = record {
  at = λ bound fits. let o = over bound in record { outcome_is = o.outcome_is; prices_are = o.prices_are; reply_is = ap (λ (s : Streams). s.reply) o.streams_are };
}

-- Parts that follow.

pub path_then
    : (p : Program) (w : Pending) (one two : List ℕ) (v1 v2 : View) (s1 s2 : Streams) → (a : Path p w one v1 s1) → Path p a.next two v2 s2 → Path p w (one ++ two) v2 s2
path_then p w one two v1 v2 s1 s2 a b =
    record { next = b.next; holds = b.holds; streams_are = b.streams_are; onwards = onwards_then p w a.next b.next one two a.onwards b.onwards }

pub closes_then
    : (p : Program) (w : Pending) (group items : List ℕ) (left rest : ℕ) (v1 : View) (s1 s2 : Streams) (end : Ending) → (a : Path p w group v1 s1) → left ≡ sum group + rest
    → ClosesAt p a.next rest end items s2 → ClosesAt p w left end (group ++ items) s2
closes_then p w group items left rest v1 s1 s2 end a left_is c = record {
  at = λ bound fits.
      let inner = c.at bound (omega (arith, fits, left_is)) in
      let same : onward (instance_of p) bound w left ≡ paid group (onward (instance_of p) bound a.next rest) =
      ap (λ (l : ℕ). onward (instance_of p) bound w l) left_is ∙ a.onwards.same bound rest (omega (arith, fits, left_is)) in
      subst (λ (r : Run). Closes r end (group ++ items) s2) (sym same)
      (record { outcome_is = inner.outcome_is; prices_are = ap (λ (ps : List ℕ). group ++ ps) inner.prices_are; reply_is = inner.reply_is });
}

-- A turn.

pub begins_paying : (q : ℕ) (p : Program) (w : Pending) (v : View) (streams : Streams) → 1 ≤ q → Holds p v w → w.state.store.streams ≡ streams → Paying q p w v streams 0
begins_paying q p w v streams least holds same =
    let nothing : sum [] ≡ 0 = refl in
    record { group = []; total = refl; cut = inl (omega (arith, least, nothing)); path = stays_path p w v streams holds same }

-- so much more is paid
pub pays_more
    : (q m : ℕ) (p : Program) (w : Pending) (v1 v2 : View) (s1 s2 : Streams) (got more : ℕ) → (a : Paying q p w v1 s1 got) → got < q → got + m ≤ q
    → Paying m p a.path.next v2 s2 more → Paying q p w v2 s2 (got + more)
pays_more q m p w v1 v2 s1 s2 got more a below within b =
    let total = a.total in
    let second = b.total in
    record {
      group = a.group ++ b.group;
      total = omega (arith, total, second, sum_join a.group b.group);
      cut = cut_then q m a.group b.group (omega (arith, total, below)) (omega (arith, total, within)) b.cut;
      path = path_then p w a.group b.group v1 v2 s1 s2 a.path b.path;
    }

pub one_paying : (q : ℕ) (p : Program) (w : Pending) (price : ℕ) (v' : View) (streams : Streams) → 1 ≤ q → Path p w (price ∷ []) v' streams → Paying q p w v' streams price
one_paying q p w price v' streams least path = record { group = price ∷ []; total = sum_one price; cut = one_cut q price least; path = path }

pub none_paying : (q : ℕ) (p : Program) (w : Pending) (v' : View) (streams : Streams) → 1 ≤ q → Path p w [] v' streams → Paying q p w v' streams 0
none_paying q p w v' streams least path =
    let nothing : sum [] ≡ 0 = refl in record { group = []; total = refl; cut = inl (omega (arith, least, nothing)); path = path }

pub reaches_of : (q : ℕ) (p : Program) (w : Pending) (v' : View) (streams : Streams) (got : ℕ) → Paying q p w v' streams got → q ≤ got → Reaches q p w v' streams got
reaches_of q p w v' streams got a reached =
    let total = a.total in
    record { group = a.group; total = a.total; cut = reached_cut q a.group a.cut (omega (arith, total, reached)); path = a.path }

item_turn : (q : ℕ) (front : List ℕ) (price : ℕ) → sum front < q → turns (front ++ item price) q ≡ 1
item_turn q front zero below = ap (λ (ps : List ℕ). turns ps q) (append-nil front) ∙ turn_below q front below
item_turn q front (suc n) below = turn_with q front (suc n) below

-- the last operator of a run is one price more, or none
pub one_item : (q : ℕ) (front : List ℕ) (end : Ending) (price : ℕ) → sum front < q → turns (front ++ last_items end price) q ≡ 1
one_item q front ending.Spent price below = turn_with q front 0 below
one_item q front ending.Fell price below = item_turn q front price below
one_item q front (ending.Exited code) price below = item_turn q front price below
one_item q front (ending.Trapped trap) price below = item_turn q front price below

pub finishes
    : (q : ℕ) (p : Program) (w : Pending) (left got price : ℕ) (v1 : View) (s1 s2 : Streams) (end : Ending) → (a : Paying q p w v1 s1 got) → got < q → got ≤ left
    → sum (last_items end price) ≡ price → ClosesAt p a.path.next (left - got) end (last_items end price) s2 → Finishes q p w left s2 end (got + price)
finishes q p w left got price v1 s1 s2 end a below within items c =
    let total = a.total in
    record {
      prices = a.group ++ last_items end price;
      total = omega (arith, total, items, sum_join a.group (last_items end price));
      last = one_item q a.group end price (omega (arith, total, below));
      closes = closes_then p w a.group (last_items end price) left (left - got) v1 s1 s2 end a.path (omega (arith, total, within)) c;
    }

-- whatever is left, it ends for nothing behind the quantum
pub finishes_free
    : (q : ℕ) (p : Program) (w : Pending) (left got : ℕ) (v1 : View) (s1 : Streams) (end : Ending) → (a : Reaches q p w v1 s1 got) → got ≤ left → EndsFree p a.path.next end
    → a.path.next.state.store.streams ≡ s1 → Finishes q p w left s1 end got
finishes_free q p w left got v1 s1 end a within f same =
    let total = a.total in
    let closes = closes_then p w a.group [] left (left - got) v1 s1 a.path.next.state.store.streams end a.path (omega (arith, total, within)) (f.at (left - got)) in
    record {
      prices = a.group ++ [];
      total = ap (λ (ps : List ℕ). sum ps) (append-nil a.group) ∙ a.total;
      last = ap (λ (ps : List ℕ). turns ps q) (append-nil a.group) ∙ last_group q a.group a.cut;
      closes = subst (λ (s : Streams). ClosesAt p w left end (a.group ++ []) s) same closes;
    }
