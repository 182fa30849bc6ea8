-- The operators of a body give back the sequence that they stand for.
use Rattle.std.proofs.Common.{◌≡◌, ℕ, ◌+◌, List, [], ◌∷◌, ◌++◌, length, Option, Some, None, refl, ap, sym, ◌∙◌, append_assoc, length-append, arith}
use Rattle.std.specs.Option.{option_and_then}
use Rattle.wasm_ops.specs.declared.operators.Op.{Op}
use Rattle.wasm_ops.specs.declared.operators.Op.TheVariants.{Block, Loop, If, Else, End}
use Rattle.wasm_ops.specs.Sequence.{Sequence, Done, Plain, InBlock, InLoop, InIf, InIfElse, IsPlain, IsNested, size, flat}
use Rattle.wasm_ops.specs.Nested.{IsBodyOf, Closing, AtEnd, AtElse, Ahead, UpTo, before, ahead_of}

-- an operator in front
next : (op : Op) (ops : List Op) (more : List Ahead) → ahead_of ops ≡ Some more → ahead_of (op ∷ ops) ≡ before op more
next op ops more e = ap (λ (o : Option (List Ahead)). option_and_then (before op) o) e

before-plain
    : (op : Op) (closing : Closing) (rest : Sequence) (more : List Ahead) → IsPlain op
    → before op (UpTo closing rest ∷ more) ≡ Some (UpTo closing (Plain op rest) ∷ more)
before-plain op closing rest more is = rw is refl

-- the operators of a held sequence with its closing one, and those behind it
closed_by
    : (close : Op) (closing : Closing) (held behind ops : List Op) (body : Sequence) (more : List Ahead)
    → before close more ≡ Some (UpTo closing Done ∷ more) → ahead_of (behind ++ ops) ≡ Some more
    → (ahead_of (close ∷ (behind ++ ops)) ≡ Some (UpTo closing Done ∷ more) → ahead_of (held ++ close ∷ (behind ++ ops)) ≡ Some (UpTo closing body ∷ more))
    → ahead_of ((held ++ close ∷ behind) ++ ops) ≡ Some (UpTo closing body ∷ more)
closed_by close closing held behind ops body more closes follows holds =
    ap (λ (all : List Op). ahead_of all) (append_assoc held (close ∷ behind) ops) ∙ holds (next close (behind ++ ops) more follows ∙ closes)

-- the flat form of a sequence is that sequence, in front of what is ahead behind it
pub ahead_of-flat
    : (s : Sequence) (at : ℕ) (ops : List Op) (closing : Closing) (more : List Ahead) → IsNested s → ahead_of ops ≡ Some (UpTo closing Done ∷ more)
    → ahead_of (flat at s ++ ops) ≡ Some (UpTo closing s ∷ more)
ahead_of-flat Done at ops closing more is e = e
ahead_of-flat (Plain op rest) at ops closing more is e =
    next op (flat (at + 1) rest ++ ops) (UpTo closing rest ∷ more) (ahead_of-flat rest (at + 1) ops closing more is.1 e)
    ∙ before-plain op closing rest more is.0
ahead_of-flat (InBlock result body rest) at ops closing more is e =
    let behind = flat (at + 2 + size body) rest in
    let after = UpTo closing rest ∷ more in
    let held = closed_by End AtEnd (flat (at + 1) body) behind ops body after refl (ahead_of-flat rest (at + 2 + size body) ops closing more is.1 e)
    (ahead_of-flat body (at + 1) (End ∷ (behind ++ ops)) AtEnd after is.0) in
    next (Block result (at + 1 + size body)) ((flat (at + 1) body ++ End ∷ behind) ++ ops) (UpTo AtEnd body ∷ after) held
ahead_of-flat (InLoop result body rest) at ops closing more is e =
    let behind = flat (at + 2 + size body) rest in
    let after = UpTo closing rest ∷ more in
    let held = closed_by End AtEnd (flat (at + 1) body) behind ops body after refl (ahead_of-flat rest (at + 2 + size body) ops closing more is.1 e)
    (ahead_of-flat body (at + 1) (End ∷ (behind ++ ops)) AtEnd after is.0) in
    next (Loop result (at + 1 + size body)) ((flat (at + 1) body ++ End ∷ behind) ++ ops) (UpTo AtEnd body ∷ after) held
ahead_of-flat (InIf result inner rest) at ops closing more is e =
    let behind = flat (at + 2 + size inner) rest in
    let after = UpTo closing rest ∷ more in
    let held = closed_by End AtEnd (flat (at + 1) inner) behind ops inner after refl (ahead_of-flat rest (at + 2 + size inner) ops closing more is.1 e)
    (ahead_of-flat inner (at + 1) (End ∷ (behind ++ ops)) AtEnd after is.0) in
    next (If result None (at + 1 + size inner)) ((flat (at + 1) inner ++ End ∷ behind) ++ ops) (UpTo AtEnd inner ∷ after) held
ahead_of-flat (InIfElse result inner other rest) at ops closing more is e =
    let between = Else (at + 2 + size inner + size other) in
    let behind = flat (at + 3 + size inner + size other) rest in
    let after = UpTo closing rest ∷ more in
    let second = flat (at + 2 + size inner) other ++ End ∷ behind in
    let other_held = closed_by End AtEnd (flat (at + 2 + size inner) other) behind ops other after refl (ahead_of-flat rest (at + 3 + size inner + size other) ops closing more is.2 e)
    (ahead_of-flat other (at + 2 + size inner) (End ∷ (behind ++ ops)) AtEnd after is.1) in
    let held = closed_by between AtElse (flat (at + 1) inner) second ops inner (UpTo AtEnd other ∷ after) refl other_held
    (ahead_of-flat inner (at + 1) (between ∷ (second ++ ops)) AtElse (UpTo AtEnd other ∷ after) is.0) in
    next (If result (Some (at + 1 + size inner)) (at + 2 + size inner + size other)) ((flat (at + 1) inner ++ between ∷ second) ++ ops)
    (UpTo AtElse inner ∷ UpTo AtEnd other ∷ after) held

pub ahead_of-body : (ops : List Op) (s : Sequence) → IsBodyOf s ops → ahead_of ops ≡ Some (UpTo AtEnd s ∷ [])
ahead_of-body ops s is = ap (λ (all : List Op). ahead_of all) is.laid_out ∙ ahead_of-flat s 0 (End ∷ []) AtEnd [] is.nested refl

same_ahead : (s other : Sequence) → Some (UpTo AtEnd s ∷ []) ≡ Some (UpTo AtEnd other ∷ []) → s ≡ other
same_ahead s other e = cc

pub one_body : (ops : List Op) (s other : Sequence) → IsBodyOf s ops → IsBodyOf other ops → s ≡ other
one_body ops s other is also = same_ahead s other (sym (ahead_of-body ops s is) ∙ ahead_of-body ops other also)

-- the flat form has as many operators as the size says
pub length-flat : (s : Sequence) (at : ℕ) → length (flat at s) ≡ size s
length-flat Done at = refl
length-flat (Plain op rest) at = let behind = length-flat rest (at + 1) in omega arith
length-flat (InBlock result body rest) at =
    omega (arith, length-flat body (at + 1), length-flat rest (at + 2 + size body), length-append (flat (at + 1) body) (End ∷ flat (at + 2 + size body) rest))
length-flat (InLoop result body rest) at =
    omega (arith, length-flat body (at + 1), length-flat rest (at + 2 + size body), length-append (flat (at + 1) body) (End ∷ flat (at + 2 + size body) rest))
length-flat (InIf result inner rest) at =
    omega (arith, length-flat inner (at + 1), length-flat rest (at + 2 + size inner), length-append (flat (at + 1) inner) (End ∷ flat (at + 2 + size inner) rest))
length-flat (InIfElse result inner other rest) at =
    let behind = flat (at + 3 + size inner + size other) rest in
    let second = flat (at + 2 + size inner) other in
    omega (
      arith,
      length-flat inner (at + 1),
      length-flat other (at + 2 + size inner),
      length-flat rest (at + 3 + size inner + size other),
      length-append second (End ∷ behind),
      length-append (flat (at + 1) inner) (Else (at + 2 + size inner + size other) ∷ (second ++ End ∷ behind)),
    )
