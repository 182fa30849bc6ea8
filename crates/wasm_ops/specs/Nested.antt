-- Which sequence flat operators stand for, and the sequences that are ahead at each of them (WebAssembly Core 1.0, sections 2.4.5 and 5.4.1).
use Rattle.std.specs.Prelude.{◌≡◌, List, [], ◌∷◌, Option, Some, None, option_and_then, if◌then◌else◌}
use Rattle.wasm_ops.specs.declared.operators.Op.{Op}
use Rattle.wasm_ops.specs.declared.operators.Op.TheVariants.{Block, Loop, If, Else, End}
use Rattle.wasm_ops.specs.Sequence.{Sequence, Done, Plain, InBlock, InLoop, InIf, InIfElse, IsNested, is_plain, flat_body}

-- the sequence stands for the operators of a body: each of its plain operators is plain, and they are its flat form
pub record IsBodyOf (sequence : Sequence) (ops : List Op) : Type 0 where
  pub nested : IsNested sequence
  pub laid_out : ops ≡ flat_body sequence

-- The form in which a machine and a validator walk over the operators: what is ahead at each of them are sequences, one
-- behind another, each up to the operator that closes it. The mark says whether that is an `end` or an `else`.
pub data Closing : Type 0 where
  AtEnd : Closing
  AtElse : Closing

pub data Ahead : Type 0 where
  UpTo : (closing : Closing) (sequence : Sequence) → Ahead

-- a plain operator stands in front of the first sequence
abbrev pub before_plain : Op → List Ahead → Option (List Ahead)
before_plain op (UpTo closing rest ∷ more) = Some (UpTo closing (Plain op rest) ∷ more)
before_plain op [] = None

-- a closing operator ends an empty sequence, and an opening one takes the sequences that it holds and the one behind it
abbrev pub before_other : Op → List Ahead → Option (List Ahead)
before_other End more = Some (UpTo AtEnd Done ∷ more)
before_other (Else end) more = Some (UpTo AtElse Done ∷ more)
before_other (Block result end) (UpTo AtEnd body ∷ UpTo closing rest ∷ more) = Some (UpTo closing (InBlock result body rest) ∷ more)
before_other (Loop result end) (UpTo AtEnd body ∷ UpTo closing rest ∷ more) = Some (UpTo closing (InLoop result body rest) ∷ more)
before_other (If result None end) (UpTo AtEnd inner ∷ UpTo closing rest ∷ more) = Some (UpTo closing (InIf result inner rest) ∷ more)
before_other (If result (Some place) end) (UpTo AtElse inner ∷ UpTo AtEnd other ∷ UpTo closing rest ∷ more) =
    Some (UpTo closing (InIfElse result inner other rest) ∷ more)
before_other op more = None

abbrev pub before : Op → List Ahead → Option (List Ahead)
before op more = if is_plain op then before_plain op more else before_other op more

-- the sequences ahead of these operators
abbrev pub ahead_of : List Op → Option (List Ahead)
ahead_of [] = Some []
ahead_of (op ∷ ops) = option_and_then (before op) (ahead_of ops)
