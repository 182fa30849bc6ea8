-- The operand types while a body is typed, and what an operator takes from them and lays on them (WebAssembly Core 1.0, section 3.3 and appendix A.3).
use Rattle.std.specs.Prelude.{ℕ, Bool, true, false, List, [], ◌∷◌, if◌then◌else◌, Option, Some, None, Result, Ok, Err}
use Rattle.wasm_ops.specs.declared.types.ValType.{ValType}
use Rattle.wasm_ops.specs.declared.types.ValType.TheVariants.{I32, I64}
use Rattle.wasm_meaning.specs.declared.violations.Rule.{Rule}
use Rattle.wasm_meaning.specs.declared.violations.Rule.TheVariants.{StackHeight, OperandType}
use Rattle.wasm_meaning.specs.declared.violations.Violation.{Violation}
use Rattle.wasm_meaning.specs.ValidityChecks.{go_on}

-- the type of an operand; none says that it may be of any type, behind an operator that never goes on
abbrev pub Operand : Type 0
Operand = Option ValType

-- what typing knows before an operator
pub record Walk : Type 0 where
  -- the place of the operator in the flat body
  pub place : ℕ
  -- how many operands lie under the block at hand
  pub under : ℕ
  -- those of the block itself, the last one first
  pub types : List Operand
  -- the operator is never reached: an operand that is missing here is of any type
  pub loose : Bool
  -- the greatest length of the whole list so far
  pub most : ℕ

-- before the first operator of a body
abbrev pub start : Walk
start = record { place = 0; under = 0; types = []; loose = false; most = 0 }

-- the operator at hand breaks a rule
abbrev pub breaks : {A : Type 0} → Rule → Walk → Result A Violation
breaks rule now = Err (record { rule = rule; place = now.place })

-- what is there, or else the rule is broken
abbrev pub known : {A : Type 0} → Rule → Walk → Option A → Result A Violation
known rule now None = breaks rule now
known rule now (Some x) = Ok x

-- the rule is broken unless this holds
abbrev pub holds : Rule → Walk → Bool → Result (Unit {0}) Violation
holds rule now true = Ok tt
holds rule now false = breaks rule now

abbrev pub same_type : ValType → ValType → Bool
same_type I32 I32 = true
same_type I64 I64 = true
same_type _ _ = false

-- two results are the same
abbrev pub same_result : Option ValType → Option ValType → Bool
same_result None None = true
same_result (Some t) (Some u) = same_type t u
same_result _ _ = false

-- an operand of the second type serves where one of the first is due
abbrev pub fits : Operand → Operand → Bool
fits (Some t) (Some u) = same_type t u
fits _ _ = true

-- the type of an operand that is of both types
abbrev pub exact : Operand → Operand → Operand
exact None have = have
exact (Some t) have = Some t

-- the last operand of the block is taken, where one of a type is due
abbrev pub pull_from : (due : Operand) → Walk → List Operand → (loose : Bool) → Result (Operand × Walk) Violation
pull_from due now [] true = Ok (due, now)
pull_from due now [] false = breaks StackHeight now
pull_from due now (have ∷ types) loose =
    if fits due have then Ok (exact due have, record now { types = types }) else breaks OperandType now

abbrev pub pull : Operand → Walk → Result (Operand × Walk) Violation
pull due now = pull_from due now now.types now.loose

abbrev pub take_off : Operand → Walk → Result Walk Violation
take_off due now = go_on (pull due now) (λ pulled. Ok pulled.1)

abbrev pub take_result : Option ValType → Walk → Result Walk Violation
take_result None now = Ok now
take_result (Some t) now = take_off (Some t) now

-- operands of all these types, the first of which is on top
abbrev pub take_all : List ValType → Walk → Result Walk Violation
take_all [] now = Ok now
take_all (t ∷ ts) now = go_on (take_off (Some t) now) (λ after. take_all ts after)

abbrev pub lay : Operand → Walk → Walk
lay operand now = record now { types = operand ∷ now.types }

abbrev pub lay_result : Option ValType → Walk → Walk
lay_result None now = now
lay_result (Some t) now = lay (Some t) now

-- what follows is never reached
abbrev pub cut : Walk → Walk
cut now = record now { types = []; loose = true }

-- The shapes of operators.

abbrev pub gives : ValType → Walk → Result Walk Violation
gives t now = Ok (lay (Some t) now)

abbrev pub unary : (from to : ValType) → Walk → Result Walk Violation
unary from to now = go_on (take_off (Some from) now) (λ after. gives to after)

abbrev pub binary : (from to : ValType) → Walk → Result Walk Violation
binary from to now = go_on (take_off (Some from) now) (λ after. unary from to after)

-- a branch that is always taken
abbrev pub branch : (due : Option ValType) → Walk → Result Walk Violation
branch due now = go_on (take_result due now) (λ after. Ok (cut after))

-- the operands of a label stay
abbrev pub keep_result : Option ValType → Walk → Result Walk Violation
keep_result due now = go_on (take_result due now) (λ after. Ok (lay_result due after))

-- a branch that is taken where an i32 is not 0
abbrev pub branch_if : (due : Option ValType) → Walk → Result Walk Violation
branch_if due now = go_on (take_off (Some I32) now) (λ after. keep_result due after)

-- two operands of one type, of which one is kept
abbrev pub select : Walk → Result Walk Violation
select now =
    go_on (take_off (Some I32) now) (λ chosen.
    go_on (pull None chosen) (λ second.
    go_on (pull second.0 second.1) (λ first. Ok (lay first.0 first.1))))
