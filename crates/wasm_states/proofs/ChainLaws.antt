-- Where the ends, branches and returns of a sequence find the labels and frames that they need.
use Rattle.std.proofs.Common.{◌≡◌, ℕ, zero, suc, ◌+◌, ◌-◌, ◌<◌, ◌≤◌, Bool, true, false, List, [], ◌∷◌, ◌++◌, length, take, drop, reverse, Option, Some, None, slice_get, is_some, refl, sym, ap, subst, ◌∙◌, append_assoc, length-append, option_map, arith}
use Rattle.std.proofs.lemmas.List.{length-map, length-reverse, drop_at}
use Rattle.wasm_ops.specs.declared.modules.Module.{Module}
use Rattle.wasm_ops.specs.declared.operators.Op.{Op}
use Rattle.wasm_ops.specs.declared.types.ValType.{ValType}
use Rattle.wasm_ops.specs.Sequence.{Sequence, InLoop, size}
use Rattle.wasm_meaning.specs.Execution.{kept, kept_one, Caller}
use Rattle.wasm_meaning.specs.Pending.{Around, AroundBlock, AroundLoop, AroundCall, Entering, Pending}
use Rattle.wasm_meaning.specs.State.{Function, State, with_operands}
use Rattle.wasm_meaning.specs.Values.{Value, number_in, numbers, has_type}
use Rattle.wasm_pending.specs.Frames.{in_frame, open_in, caller_in}
use Rattle.wasm_pending.specs.Steps.{pending_at, past_call, branched, returned, fallen}
use Rattle.wasm_store.specs.Stacks.{kept as count_kept, cut}
use Rattle.wasm_store.specs.declared.calls.Frame.{Frame}
use Rattle.wasm_store.specs.declared.labels.Label.{Label}
use Rattle.wasm_states.specs.Chains.{cells_under, height_under, Chain}
use Rattle.wasm_states.specs.Codes.{Stands, behind}

-- Cells.

pub length-numbers : (values : List Value) → length (numbers values) ≡ length values
length-numbers values = length-map values number_in

pub length-cells_under : (locals : List Value) (around : List Around) → length (cells_under locals around) ≡ height_under (length locals) around
length-cells_under locals [] = refl
length-cells_under locals (AroundBlock t base rest ∷ around) =
    length-append (numbers base) (cells_under locals around)
    ∙ ap (λ (n : ℕ). n + length (cells_under locals around)) (length-numbers base)
    ∙ ap (λ (n : ℕ). length base + n) (length-cells_under locals around)
length-cells_under locals (AroundLoop t base body rest ∷ around) =
    length-append (numbers base) (cells_under locals around)
    ∙ ap (λ (n : ℕ). n + length (cells_under locals around)) (length-numbers base)
    ∙ ap (λ (n : ℕ). length base + n) (length-cells_under locals around)
length-cells_under locals (AroundCall t number caller rest ∷ around) =
    let low = cells_under caller.frame.locals around in
    length-append (reverse (numbers locals)) (numbers caller.operands ++ low)
    ∙ ap (λ (n : ℕ). n + length (numbers caller.operands ++ low)) (length-reverse (numbers locals) ∙ length-numbers locals)
    ∙ ap (λ (n : ℕ). length locals + n) (
    length-append (numbers caller.operands) low
    ∙ ap (λ (n : ℕ). n + length low) (length-numbers caller.operands)
    ∙ ap (λ (n : ℕ). length caller.operands + n) (length-cells_under caller.frame.locals around)
    )
length-cells_under locals (Entering number ∷ around) = refl

numbers-append : (xs ys : List Value) → numbers (xs ++ ys) ≡ numbers xs ++ numbers ys
numbers-append [] ys = refl
numbers-append (x ∷ xs) ys = ap (λ (ns : List ℕ). number_in x ∷ ns) (numbers-append xs ys)

-- operands that lie on others
pub laid_on : (operands base : List Value) (low : List ℕ) → numbers operands ++ (numbers base ++ low) ≡ numbers (operands ++ base) ++ low
laid_on operands base low =
    sym (append_assoc (numbers operands) (numbers base) low) ∙ ap (λ (ns : List ℕ). ns ++ low) (sym (numbers-append operands base))

-- the lowest cells, and some on top
pub cut_to : (keep height : ℕ) (cells front low : List ℕ) → cells ≡ front ++ low → length low ≡ height → cut keep height cells ≡ take keep cells ++ low
cut_to keep height cells front low is long =
    ap (λ (ns : List ℕ). take keep cells ++ ns) (
    ap (λ (ns : List ℕ). drop (length ns - height) ns) is
    ∙ ap (λ (n : ℕ). drop n (front ++ low)) (more (length (front ++ low)) (length front) (length low) (length-append front low) long)
    ∙ drop_at front low (length front) refl
    )
  where
    more : (all n m : ℕ) → all ≡ n + m → m ≡ height → all - height ≡ n
    more all n m e f = omega (arith, e, f)

-- the result, if there is one, lies on top
pub kept_top
    : (t : Option ValType) (operands values : List Value) (low : List ℕ) → kept t operands ≡ Some values
    → take (count_kept (is_some t)) (numbers operands ++ low) ≡ numbers values
kept_top None operands values low e = let none : [] ≡ values = cc in ap (λ (vs : List Value). numbers vs) none
kept_top (Some t) [] values low e = let bad : ⊥ = cc in absurd bad
kept_top (Some t) (v ∷ operands) values low e = by (has_type t v) e
  where
    by : (b : Bool) → kept_one b v ≡ Some values → take 1 (number_in v ∷ (numbers operands ++ low)) ≡ numbers values
    by true e = let one : v ∷ [] ≡ values = cc in ap (λ (vs : List Value). numbers vs) one
    by false e = let bad : ⊥ = cc in absurd bad

pub kept_within
    : (t : Option ValType) (operands values : List Value) → kept t operands ≡ Some values → count_kept (is_some t) ≤ length operands
kept_within None operands values e = omega arith
kept_within (Some t) [] values e = let bad : ⊥ = cc in absurd bad
kept_within (Some t) (v ∷ operands) values e = omega arith

-- Ends of blocks.

module _ (m : Module) (function : Function) (ops : List Op) (used locals : ℕ) (entries : List ℕ) where
  -- behind the inmost block
  pub record FallsTo (stop : ℕ) (around : List Around) (labels : List Label) (frames : List Frame) : Type 0 where
    pub rest : Sequence
    pub base : List Value
    pub outer : List Around
    pub target : ℕ
    pub has_label : 1 ≤ length labels
    pub behind_is : behind stop (slice_get ops stop) ≡ Some target
    pub stands : Stands ops target rest
    pub chain : Chain m function ops (target + size rest) used locals entries outer (drop 1 labels) frames
    pub under : (values : List Value) → cells_under values around ≡ numbers base ++ cells_under values outer
    pub falls : (st : State) → fallen around st ≡ Some (pending_at rest outer (with_operands st (st.operands ++ base)))

  pub falls_to
      : (stop : ℕ) (around : List Around) (labels : List Label) (frames : List Frame) → Chain m function ops stop used locals entries around labels frames
      → 1 ≤ open_in around → FallsTo stop around labels frames
  falls_to stop [] labels frames chain opened = absurd chain
  falls_to stop (AroundBlock t base rest ∷ around) [] frames chain opened = absurd chain
  falls_to stop (AroundBlock t base rest ∷ around) (l ∷ labels) frames chain opened = record {
    rest = rest;
    base = base;
    outer = around;
    target = l.target;
    has_label = omega arith;
    behind_is = chain.0.closes;
    stands = chain.0.stands;
    chain = chain.1;
    under = λ values. refl;
    falls = λ st. refl;
  }
  falls_to stop (AroundLoop t base body rest ∷ around) [] frames chain opened = absurd chain
  falls_to stop (AroundLoop t base body rest ∷ around) (l ∷ labels) frames chain opened =
      let turn = chain.0.turn in
      let here : l.target + 2 + size body ≡ stop + 1 = omega (arith, turn) in
      let last : l.target + size (InLoop t body rest) ≡ stop + 1 + size rest = omega (arith, turn) in
      record {
        rest = rest;
        base = base;
        outer = around;
        target = stop + 1;
        has_label = omega arith;
        behind_is = ap (λ (o : Option Op). behind stop o) (ap (λ (k : ℕ). slice_get ops k) turn ∙ chain.0.stands.2);
        stands = subst (λ (k : ℕ). Stands ops k rest) here chain.0.stands.3;
        chain = subst (λ (k : ℕ). Chain m function ops k used locals entries around labels frames) last chain.1;
        under = λ values. refl;
        falls = λ st. refl;
      }
  falls_to stop (AroundCall t number caller rest ∷ around) labels frames chain opened = let bad : ⊥ = omega (arith, opened) in absurd bad
  falls_to stop (Entering number ∷ around) labels frames chain opened = absurd chain

  -- Branches.

  -- what a branch to a label leaves: a result, if the label takes one, on the operands around its block
  pub record LandsWith (l : Label) (s : Sequence) (outer : List Around) (base : List Value) (st : State) (w' : Pending) : Type 0 where
    pub values : List Value
    pub is : w' ≡ pending_at s outer (with_operands st (values ++ base))
    pub top : (low : List ℕ) → take (count_kept l.result) (numbers st.operands ++ low) ≡ numbers values
    pub enough : count_kept l.result ≤ length st.operands

  pub record BranchesTo (around : List Around) (labels : List Label) (frames : List Frame) (label : ℕ) : Type 0 where
    pub l : Label
    pub s : Sequence
    pub base : List Value
    pub outer : List Around
    pub found : slice_get labels label ≡ Some l
    pub within : label < length labels
    pub stands : Stands ops l.target s
    pub chain : Chain m function ops (l.target + size s) used locals entries outer (drop (suc label) labels) frames
    pub lies : l.height ≡ length base + height_under locals outer
    pub under : (values : List Value) → (front : List ℕ) × (cells_under values around ≡ front ++ (numbers base ++ cells_under values outer))
    pub lands : (st : State) (w' : Pending) → branched label around st ≡ Some w' → LandsWith l s outer base st w'

  block_lands
      : (l : Label) (t : Option ValType) (base : List Value) (rest : Sequence) (around : List Around) (st : State) (w' : Pending) → l.result ≡ is_some t
      → branched 0 (AroundBlock t base rest ∷ around) st ≡ Some w' → LandsWith l rest around base st w'
  block_lands l t base rest around st w' takes e = by (kept t st.operands) refl e
    where
      by
          : (o : Option (List Value)) → kept t st.operands ≡ o
          → option_map (λ values. pending_at rest around (with_operands st (values ++ base))) o ≡ Some w' → LandsWith l rest around base st w'
      by None is e = let bad : ⊥ = cc in absurd bad
      by (Some values) is e =
          let same : pending_at rest around (with_operands st (values ++ base)) ≡ w' = cc in
          record {
            values = values;
            is = sym same;
            top = λ low. ap (λ (b : Bool). take (count_kept b) (numbers st.operands ++ low)) takes ∙ kept_top t st.operands values low is;
            enough = subst (λ (b : Bool). count_kept b ≤ length st.operands) (sym takes) (kept_within t st.operands values is);
          }

  loop_lands
      : (l : Label) (t : Option ValType) (base : List Value) (body rest : Sequence) (around : List Around) (st : State) (w' : Pending) → l.result ≡ false
      → branched 0 (AroundLoop t base body rest ∷ around) st ≡ Some w' → LandsWith l (InLoop t body rest) around base st w'
  loop_lands l t base body rest around st w' takes e =
      let same : pending_at (InLoop t body rest) around (with_operands st base) ≡ w' = cc in
      record {
        values = [];
        is = sym same;
        top = λ low. ap (λ (b : Bool). take (count_kept b) (numbers st.operands ++ low)) takes;
        enough = subst (λ (b : Bool). count_kept b ≤ length st.operands) (sym takes) (omega arith);
      }

  -- the same label, in one block more
  outside_of
      : (label : ℕ) (a : Around) (base : List Value) (around : List Around) (l : Label) (labels : List Label) (frames : List Frame)
      → ((values : List Value) → cells_under values (a ∷ around) ≡ numbers base ++ cells_under values around)
      → ((st : State) → branched (suc label) (a ∷ around) st ≡ branched label around st)
      → BranchesTo around labels frames label → BranchesTo (a ∷ around) (l ∷ labels) frames (suc label)
  outside_of label a base around l labels frames under_is branch_is b =
      let within = b.within in
      record {
        l = b.l;
        s = b.s;
        base = b.base;
        outer = b.outer;
        found = b.found;
        within = omega (arith, within);
        stands = b.stands;
        chain = b.chain;
        lies = b.lies;
        under = λ values.
            let inner = b.under values in
            (numbers base ++ inner.0, under_is values ∙ ap (λ (ns : List ℕ). numbers base ++ ns) inner.1 ∙ sym (append_assoc (numbers base) inner.0 (numbers b.base ++ cells_under values b.outer)));
        lands = λ st w' e. b.lands st w' (sym (branch_is st) ∙ e);
      }

  pub branches_to
      : (label : ℕ) (stop : ℕ) (around : List Around) (labels : List Label) (frames : List Frame) → Chain m function ops stop used locals entries around labels frames
      → label < open_in around → BranchesTo around labels frames label
  branches_to label stop [] labels frames chain lt = absurd chain
  branches_to label stop (AroundBlock t base rest ∷ around) [] frames chain lt = absurd chain
  branches_to zero stop (AroundBlock t base rest ∷ around) (l ∷ labels) frames chain lt = record {
    l = l;
    s = rest;
    base = base;
    outer = around;
    found = refl;
    within = omega arith;
    stands = chain.0.stands;
    chain = chain.1;
    lies = chain.0.lies;
    under = λ values. ([], refl);
    lands = λ st w' e. block_lands l t base rest around st w' chain.0.takes e;
  }
  branches_to (suc label) stop (AroundBlock t base rest ∷ around) (l ∷ labels) frames chain lt =
      outside_of label (AroundBlock t base rest) base around l labels frames (λ values. refl) (λ st. refl)
      (branches_to label (l.target + size rest) around labels frames chain.1 (omega (arith, lt)))
  branches_to label stop (AroundLoop t base body rest ∷ around) [] frames chain lt = absurd chain
  branches_to zero stop (AroundLoop t base body rest ∷ around) (l ∷ labels) frames chain lt = record {
    l = l;
    s = InLoop t body rest;
    base = base;
    outer = around;
    found = refl;
    within = omega arith;
    stands = chain.0.stands;
    chain = chain.1;
    lies = chain.0.lies;
    under = λ values. ([], refl);
    lands = λ st w' e. loop_lands l t base body rest around st w' chain.0.takes e;
  }
  branches_to (suc label) stop (AroundLoop t base body rest ∷ around) (l ∷ labels) frames chain lt =
      outside_of label (AroundLoop t base body rest) base around l labels frames (λ values. refl) (λ st. refl)
      (branches_to label (l.target + size (InLoop t body rest)) around labels frames chain.1 (omega (arith, lt)))
  branches_to label stop (AroundCall t number caller rest ∷ around) labels frames chain lt = let bad : ⊥ = omega (arith, lt) in absurd bad
  branches_to label stop (Entering number ∷ around) labels frames chain lt = absurd chain

  -- Calls.

  -- the call that runs, outside of all its blocks
  pub record AtCall (around : List Around) (labels : List Label) (frames : List Frame) : Type 0 where
    pub t : Option ValType
    pub number : ℕ
    pub caller : Caller
    pub rest : Sequence
    pub outer : List Around
    pub stop : ℕ
    pub chain : Chain m function ops stop used locals entries (AroundCall t number caller rest ∷ outer) (drop (open_in around) labels) frames
    pub count : length labels ≡ open_in around + length (drop (open_in around) labels)
    pub under : (values : List Value) → (front : List ℕ) × (cells_under values around ≡ front ++ cells_under values (AroundCall t number caller rest ∷ outer))
    pub height : height_under locals around ≡ in_frame around + height_under locals (AroundCall t number caller rest ∷ outer)
    pub returns : (st : State) → returned around st ≡ past_call t caller rest outer st
    pub branches : (st : State) → branched (open_in around) around st ≡ past_call t caller rest outer st
    pub called : caller_in around ≡ number

  one_out
      : (a : Around) (base : List Value) (around : List Around) (l : Label) (labels : List Label) (frames : List Frame) → open_in (a ∷ around) ≡ suc (open_in around)
      → in_frame (a ∷ around) ≡ length base + in_frame around
      → ((values : List Value) → cells_under values (a ∷ around) ≡ numbers base ++ cells_under values around)
      → height_under locals (a ∷ around) ≡ length base + height_under locals around
      → ((st : State) → returned (a ∷ around) st ≡ returned around st)
      → ((st : State) → branched (suc (open_in around)) (a ∷ around) st ≡ branched (open_in around) around st)
      → caller_in (a ∷ around) ≡ caller_in around
      → AtCall around labels frames → AtCall (a ∷ around) (l ∷ labels) frames
  one_out a base around l labels frames opened framed under_is height_is return_is branch_is called_is c =
      let count = c.count in
      let height = c.height in
      record {
        t = c.t;
        number = c.number;
        caller = c.caller;
        rest = c.rest;
        outer = c.outer;
        stop = c.stop;
        chain = subst (λ (n : ℕ). Chain m function ops c.stop used locals entries (AroundCall c.t c.number c.caller c.rest ∷ c.outer) (drop n (l ∷ labels)) frames) (sym opened) c.chain;
        count = subst (λ (n : ℕ). length (l ∷ labels) ≡ n + length (drop n (l ∷ labels))) (sym opened) (ap suc count ∙ more (open_in around) (length (drop (open_in around) labels)));
        under = λ values.
            let inner = c.under values in (
              numbers base ++ inner.0,
              under_is values ∙ ap (λ (ns : List ℕ). numbers base ++ ns) inner.1
                  ∙ sym (append_assoc (numbers base) inner.0 (cells_under values (AroundCall c.t c.number c.caller c.rest ∷ c.outer))),
            );
        height = omega (arith, height_is, framed, height);
        returns = λ st. return_is st ∙ c.returns st;
        branches = λ st. ap (λ (n : ℕ). branched n (a ∷ around) st) opened ∙ branch_is st ∙ c.branches st;
        called = called_is ∙ c.called;
      }
    where
      more : (n k : ℕ) → suc (n + k) ≡ suc n + k
      more n k = omega arith

  pub at_call
      : (stop : ℕ) (around : List Around) (labels : List Label) (frames : List Frame) → Chain m function ops stop used locals entries around labels frames
      → AtCall around labels frames
  at_call stop [] labels frames chain = absurd chain
  at_call stop (AroundBlock t base rest ∷ around) [] frames chain = absurd chain
  at_call stop (AroundBlock t base rest ∷ around) (l ∷ labels) frames chain =
      one_out (AroundBlock t base rest) base around l labels frames (more (open_in around)) refl (λ values. refl) refl (λ st. refl) (λ st. refl) refl
      (at_call (l.target + size rest) around labels frames chain.1)
    where
      more : (n : ℕ) → 1 + n ≡ suc n
      more n = omega arith
  at_call stop (AroundLoop t base body rest ∷ around) [] frames chain = absurd chain
  at_call stop (AroundLoop t base body rest ∷ around) (l ∷ labels) frames chain =
      one_out (AroundLoop t base body rest) base around l labels frames (more (open_in around)) refl (λ values. refl) refl (λ st. refl) (λ st. refl) refl
      (at_call (l.target + size (InLoop t body rest)) around labels frames chain.1)
    where
      more : (n : ℕ) → 1 + n ≡ suc n
      more n = omega arith
  at_call stop (AroundCall t number caller rest ∷ around) labels frames chain = record {
    t = t;
    number = number;
    caller = caller;
    rest = rest;
    outer = around;
    stop = stop;
    chain = chain;
    count = all (length labels);
    under = λ values. ([], refl);
    height = all (height_under locals (AroundCall t number caller rest ∷ around));
    returns = λ st. refl;
    branches = λ st. refl;
    called = refl;
  }
    where
      all : (n : ℕ) → n ≡ 0 + n
      all n = omega arith
  at_call stop (Entering number ∷ around) labels frames chain = absurd chain
