-- Values of the types that typing gives: what typing takes off or lays on stands there.
use Rattle.std.proofs.Common.{◌≡◌, ℕ, zero, suc, Bool, true, false, cond, List, [], ◌∷◌, ◌++◌, reverse, map, Option, Some, None, Result, Ok, Err, slice_get, slice_set, refl, sym, ap, subst, ◌∙◌, append_assoc, append-nil}
use Rattle.std.proofs.lemmas.List.{reverse-append, reverse-reverse}
use Rattle.std.specs.Prelude.{option_to_list}
use Rattle.wasm_ops.specs.declared.types.ValType.{ValType}
use Rattle.wasm_ops.specs.declared.types.ValType.TheVariants.{I32, I64}
use Rattle.wasm_meaning.specs.declared.violations.Violation.{Violation}
use Rattle.wasm_meaning.specs.Control.{Arguments, take_values, take_arguments}
use Rattle.wasm_meaning.specs.Effects.{take_off as last_of, taken_over}
use Rattle.wasm_meaning.specs.Execution.{kept, kept_one}
use Rattle.wasm_meaning.specs.declared.violations.Rule.TheVariants.{OperandType}
use Rattle.wasm_meaning.specs.Fitting.{AreOf, IsOne, Fit, Falls}
use Rattle.wasm_meaning.specs.TypingOperands.{Walk, Operand, breaks, fits, exact, same_type, pull_from, pull, take_off, take_result, take_all, lay_result}
use Rattle.wasm_meaning.specs.ValidityChecks.{go_on}
use Rattle.wasm_meaning.specs.Values.{Value, Int32, Int64, type_of, value_of, number_in, number_of, has_type, zero_of}
use Rattle.wasm_meaning.specs.Variable.{replaced, replaced_one}

-- Steps of typing.

pub record Went {A B E : Type 0} (r : Result A E) (rest : A → Result B E) (y : B) : Type 0 where
  pub middle : A
  pub first : r ≡ Ok middle
  pub second : rest middle ≡ Ok y

pub went : {A B E : Type 0} (r : Result A E) (rest : A → Result B E) (y : B) → go_on r rest ≡ Ok y → Went r rest y
went (Ok x) rest y e = record { middle = x; first = refl; second = e }
went (Err why) rest y e = let bad : ⊥ = cc in absurd bad

pub given_ok : {A E : Type 0} (x y : A) (r : Result A E) → r ≡ Ok x → r ≡ Ok y → x ≡ y
given_ok x y r e f = cc

pub given_some : {A : Type 0} (x y : A) (o : Option A) → o ≡ Some x → o ≡ Some y → x ≡ y
given_some x y o e f = cc

-- Values and types.

pub has_value_of : (t : ValType) (n : ℕ) → has_type t (value_of t n) ≡ true
has_value_of I32 n = refl
has_value_of I64 n = refl

number_of_has : (t : ValType) (v : Value) → has_type t v ≡ true → number_of t v ≡ Some (number_in v)
number_of_has I32 (Int32 n) e = refl
number_of_has I64 (Int64 n) e = refl
number_of_has I32 (Int64 n) e = let bad : ⊥ = cc in absurd bad
number_of_has I64 (Int32 n) e = let bad : ⊥ = cc in absurd bad

type_of_has : (t : ValType) (v : Value) → has_type t v ≡ true → type_of v ≡ t
type_of_has I32 (Int32 n) e = refl
type_of_has I64 (Int64 n) e = refl
type_of_has I32 (Int64 n) e = let bad : ⊥ = cc in absurd bad
type_of_has I64 (Int32 n) e = let bad : ⊥ = cc in absurd bad

pub same_types_equal : (t u : ValType) → same_type t u ≡ true → t ≡ u
same_types_equal I32 I32 e = refl
same_types_equal I64 I64 e = refl
same_types_equal I32 I64 e = let bad : ⊥ = cc in absurd bad
same_types_equal I64 I32 e = let bad : ⊥ = cc in absurd bad

pub record Found (t : ValType) (vs : List Value) (index : ℕ) : Type 0 where
  pub value : Value
  pub is : slice_get vs index ≡ Some value
  pub has : has_type t value ≡ true

pub found : (ts : List ValType) (vs : List Value) (index : ℕ) (t : ValType) → AreOf ts vs → slice_get ts index ≡ Some t → Found t vs index
found [] vs index t are e = let bad : ⊥ = cc in absurd bad
found (u ∷ ts) [] index t are e = absurd are
found (u ∷ ts) (v ∷ vs) zero t are e =
    let same : u ≡ t = cc in record { value = v; is = refl; has = subst (λ (w : ValType). has_type w v ≡ true) same are.0 }
found (u ∷ ts) (v ∷ vs) (suc index) t are e =
    let f = found ts vs index t are.1 e in record { value = f.value; is = f.is; has = f.has }

set_are : (ts : List ValType) (vs : List Value) (index : ℕ) (t : ValType) (v : Value) → AreOf ts vs → slice_get ts index ≡ Some t → has_type t v ≡ true → AreOf ts (slice_set vs index v)
set_are [] vs index t v are e h = let bad : ⊥ = cc in absurd bad
set_are (u ∷ ts) [] index t v are e h = absurd are
set_are (u ∷ ts) (w ∷ vs) zero t v are e h =
    let same : t ≡ u = cc in (subst (λ (x : ValType). has_type x v ≡ true) same h, are.1)
set_are (u ∷ ts) (w ∷ vs) (suc index) t v are e h = (are.0, set_are ts vs index t v are.1 e h)

-- a variable takes a value of its type
pub record Replaces (ts : List ValType) (vs : List Value) (index : ℕ) (v : Value) : Type 0 where
  pub values : List Value
  pub is : replaced vs index v ≡ Some values
  pub are : AreOf ts values

pub replaces
    : (ts : List ValType) (vs : List Value) (index : ℕ) (t : ValType) (v : Value) → AreOf ts vs → slice_get ts index ≡ Some t → has_type t v ≡ true
    → Replaces ts vs index v
replaces ts vs index t v are e h =
    let f = found ts vs index t are e in
    let same : has_type (type_of f.value) v ≡ true = subst (λ (u : ValType). has_type u v ≡ true) (sym (type_of_has t f.value f.has)) h in
    record {
      values = slice_set vs index v;
      is = ap (λ (o : Option Value). replaced_one o vs index v) f.is ∙ ap (λ (b : Bool). cond b (Some (slice_set vs index v)) None) same;
      are = set_are ts vs index t v are e h;
    }

pub append_are : (ts us : List ValType) (vs ws : List Value) → AreOf ts vs → AreOf us ws → AreOf (ts ++ us) (vs ++ ws)
append_are [] us [] ws a b = b
append_are [] us (v ∷ vs) ws a b = absurd a
append_are (t ∷ ts) us [] ws a b = absurd a
append_are (t ∷ ts) us (v ∷ vs) ws a b = (a.0, append_are ts us vs ws a.1 b)

pub zeros_are : (ts : List ValType) → AreOf ts (map zero_of ts)
zeros_are [] = tt
zeros_are (t ∷ ts) = (has_value_of t 0, zeros_are ts)

-- Operands.

pub record Pulled (now : Walk) (due : Operand) (p : Operand × Walk) (vs : List Value) : Type 0 where
  pub value : Value
  pub under : List Value
  pub is : vs ≡ value ∷ under
  pub one : IsOne p.0 value
  pub as_due : (t : ValType) → due ≡ Some t → has_type t value ≡ true
  pub rest : Falls p.1 under

exact_one : (due have : Operand) (v : Value) → fits due have ≡ true → IsOne have v → IsOne (exact due have) v
exact_one None have v f one = one
exact_one (Some t) None v f one = absurd one
exact_one (Some t) (Some u) v f one = subst (λ (w : ValType). has_type w v ≡ true) (sym (same_types_equal t u f)) one

due_one : (due have : Operand) (v : Value) → fits due have ≡ true → IsOne have v → (t : ValType) → due ≡ Some t → has_type t v ≡ true
due_one None have v f one t e = let bad : ⊥ = cc in absurd bad
due_one (Some u) None v f one t e = absurd one
due_one (Some u) (Some w) v f one t e =
    let first : w ≡ u = sym (same_types_equal u w f) in
    let second : u ≡ t = cc in subst (λ (x : ValType). has_type x v ≡ true) (first ∙ second) one

pulled_from
    : (due : Operand) (now : Walk) (types : List Operand) (vs : List Value) (p : Operand × Walk) → now.loose ≡ false → Fit types vs
    → pull_from due now types false ≡ Ok p → Pulled now due p vs
pulled_from due now [] vs p firm fit e = let bad : ⊥ = cc in absurd bad
pulled_from due now (have ∷ types) [] p firm fit e = absurd fit
pulled_from due now (have ∷ types) (v ∷ vs) p firm fit e = by (fits due have) refl e
  where
    by
        : (b : Bool) → fits due have ≡ b → cond b (Ok (exact due have, record now { types = types })) (breaks OperandType now) ≡ Ok p
        → Pulled now due p (v ∷ vs)
    by true f e =
        let here : (exact due have, record now { types = types }) ≡ p = cc in
        subst (λ (q : Operand × Walk). Pulled now due q (v ∷ vs)) here
        (record { value = v; under = vs; is = refl; one = exact_one due have v f fit.0; as_due = due_one due have v f fit.0; rest = (firm, fit.1) })
    by false f e = let bad : ⊥ = cc in absurd bad

pub pulled : (due : Operand) (now : Walk) (p : Operand × Walk) (vs : List Value) → pull due now ≡ Ok p → Falls now vs → Pulled now due p vs
pulled due now p vs e falls =
    pulled_from due now now.types vs p falls.0 falls.1 (subst (λ (b : Bool). pull_from due now now.types b ≡ Ok p) falls.0 e)

-- the last operand was taken off
pub record Off (t : ValType) (after : Walk) (vs : List Value) : Type 0 where
  pub value : Value
  pub under : List Value
  pub is : vs ≡ value ∷ under
  pub has : has_type t value ≡ true
  pub taken : last_of t vs ≡ Some (record { number = number_in value; under = under })
  pub rest : Falls after under

pub off : (t : ValType) (now after : Walk) (vs : List Value) → take_off (Some t) now ≡ Ok after → Falls now vs → Off t after vs
off t now after vs e falls =
    let w = went (pull (Some t) now) (λ p. Ok p.1) after e in
    let p = pulled (Some t) now w.middle vs w.first falls in
    let has = p.as_due t refl in
    let same : w.middle.1 ≡ after = given_after w.middle after w.second in
    record {
      value = p.value;
      under = p.under;
      is = p.is;
      has = has;
      taken = ap (λ (xs : List Value). last_of t xs) p.is ∙ ap (λ (o : Option ℕ). taken_over p.under o) (number_of_has t p.value has);
      rest = subst (λ (x : Walk). Falls x p.under) same p.rest;
    }
  where
    given_after : (m : Operand × Walk) (after : Walk) → ◌≡◌ {A = Result Walk Violation} (Ok m.1) (Ok after) → m.1 ≡ after
    given_after m after e = cc

-- likewise one of any type
pub record OffAny (after : Walk) (vs : List Value) : Type 0 where
  pub value : Value
  pub under : List Value
  pub is : vs ≡ value ∷ under
  pub rest : Falls after under

pub off_any : (now after : Walk) (vs : List Value) → take_off None now ≡ Ok after → Falls now vs → OffAny after vs
off_any now after vs e falls =
    let w = went (pull None now) (λ p. Ok p.1) after e in
    let p = pulled None now w.middle vs w.first falls in
    let same : w.middle.1 ≡ after = given_after w.middle after w.second in
    record { value = p.value; under = p.under; is = p.is; rest = subst (λ (x : Walk). Falls x p.under) same p.rest }
  where
    given_after : (m : Operand × Walk) (after : Walk) → ◌≡◌ {A = Result Walk Violation} (Ok m.1) (Ok after) → m.1 ≡ after
    given_after m after e = cc

-- Results.

-- the result that is due lies on top
pub record Keeps (due : Option ValType) (vs : List Value) : Type 0 where
  pub values : List Value
  pub is : kept due vs ≡ Some values
  pub are : AreOf (option_to_list due) values

pub record TookResult (due : Option ValType) (after : Walk) (vs : List Value) : Type 0 where
  pub keeps : Keeps due vs
  pub under : List Value
  pub whole : vs ≡ keeps.values ++ under
  pub rest : Falls after under

abbrev keeps_one : (t : ValType) (v : Value) (vs : List Value) → has_type t v ≡ true → Keeps (Some t) (v ∷ vs)
keeps_one t v vs h = record { values = v ∷ []; is = ap (λ (b : Bool). kept_one b v) h; are = (h, tt) }

pub took_result
    : (due : Option ValType) (now after : Walk) (vs : List Value) → take_result due now ≡ Ok after → Falls now vs → TookResult due after vs
took_result None now after vs e falls =
    let same : now ≡ after = given_now now after e in
    record {
      keeps = record { values = []; is = refl; are = tt };
      under = vs;
      whole = refl;
      rest = subst (λ (x : Walk). Falls x vs) same falls;
    }
  where
    given_now : (now after : Walk) → ◌≡◌ {A = Result Walk Violation} (Ok now) (Ok after) → now ≡ after
    given_now now after e = cc
took_result (Some t) now after vs e falls =
    let o = off t now after vs e falls in
    subst (λ (xs : List Value). TookResult (Some t) after xs) (sym o.is)
    (record { keeps = keeps_one t o.value o.under o.has; under = o.under; whole = refl; rest = o.rest })

pub laid_result
    : (due : Option ValType) (values base : List Value) (now : Walk) → AreOf (option_to_list due) values → Falls now base
    → Falls (lay_result due now) (values ++ base)
laid_result None [] base now are falls = falls
laid_result None (v ∷ vs) base now are falls = absurd are
laid_result (Some t) [] base now are falls = absurd are
laid_result (Some t) (v ∷ []) base now are falls = (falls.0, (are.0, falls.1))
laid_result (Some t) (v ∷ w ∷ vs) base now are falls = absurd are.1

pub keeps_all : (due : Option ValType) (vs : List Value) → AreOf (option_to_list due) vs → Keeps due vs
keeps_all None vs are = record { values = []; is = refl; are = tt }
keeps_all (Some t) [] are = absurd are
keeps_all (Some t) (v ∷ vs) are = keeps_one t v vs are.0

-- Arguments.

record TookAll (ts : List ValType) (after : Walk) (vs before : List Value) : Type 0 where
  arguments : List Value
  under : List Value
  is : take_values ts vs before ≡ Some (record { arguments = arguments; under = under })
  are : (us : List ValType) → AreOf us before → AreOf (reverse ts ++ us) arguments
  rest : Falls after under

took_all
    : (ts : List ValType) (now after : Walk) (vs before : List Value) → take_all ts now ≡ Ok after → Falls now vs → TookAll ts after vs before
took_all [] now after vs before e falls =
    let same : now ≡ after = given_now now after e in
    record { arguments = before; under = vs; is = refl; are = λ us are. are; rest = subst (λ (x : Walk). Falls x vs) same falls }
  where
    given_now : (now after : Walk) → ◌≡◌ {A = Result Walk Violation} (Ok now) (Ok after) → now ≡ after
    given_now now after e = cc
took_all (t ∷ ts) now after vs before e falls =
    let w = went (take_off (Some t) now) (λ x. take_all ts x) after e in
    let o = off t now w.middle vs w.first falls in
    let more = took_all ts w.middle after o.under (o.value ∷ before) w.second o.rest in
    record {
      arguments = more.arguments;
      under = more.under;
      is = ap (λ (xs : List Value). take_values (t ∷ ts) xs before) o.is
          ∙ ap (λ (b : Bool). cond b (take_values ts o.under (o.value ∷ before)) None) o.has ∙ more.is;
      are = λ us are.
          subst (λ (xs : List ValType). AreOf xs more.arguments) (sym (ap (λ (xs : List ValType). xs ++ us) (reverse-append (t ∷ []) ts) ∙ append_assoc (reverse ts) (t ∷ []) us)) (more.are (t ∷ us) (o.has, are));
      rest = more.rest;
    }

-- the arguments of a call
pub record TookArguments (params : List ValType) (after : Walk) (vs : List Value) : Type 0 where
  pub taken : Arguments
  pub is : take_arguments params vs ≡ Some taken
  pub are : AreOf params taken.arguments
  pub rest : Falls after taken.under

pub took_arguments
    : (params : List ValType) (now after : Walk) (vs : List Value) → take_all (reverse params) now ≡ Ok after → Falls now vs
    → TookArguments params after vs
took_arguments params now after vs e falls =
    let all = took_all (reverse params) now after vs [] e falls in
    record {
      taken = record { arguments = all.arguments; under = all.under };
      is = all.is;
      are = subst (λ (ts : List ValType). AreOf ts all.arguments) (append-nil (reverse (reverse params)) ∙ reverse-reverse params) (all.are [] tt);
      rest = all.rest;
    }
