-- Which sequence stands where a given operator does.
use Rattle.std.proofs.Common.{◌≡◌, ℕ, true, false, ◌+◌, List, [], ◌∷◌, Option, Some, None, slice_get, refl, ap, subst, ◌∙◌, arith}
use Rattle.wasm_ops.specs.declared.modules.Module.{Module}
use Rattle.wasm_ops.specs.declared.operators.Op.{Op}
use Rattle.wasm_ops.specs.declared.operators.Op.TheVariants.{Block, Loop, If, Else, End}
use Rattle.wasm_ops.specs.declared.types.ValType.{ValType}
use Rattle.wasm_ops.specs.Sequence.{Sequence, Done, Plain, InBlock, InLoop, InIf, InIfElse, IsPlain, size}
use Rattle.wasm_meaning.specs.Pending.{Around, AroundBlock, AroundLoop, AroundCall, Entering}
use Rattle.wasm_meaning.specs.State.{Function}
use Rattle.wasm_store.specs.declared.calls.Frame.{Frame}
use Rattle.wasm_store.specs.declared.labels.Label.{Label}
use Rattle.wasm_states.specs.Chains.{Chain}
use Rattle.wasm_states.specs.Codes.{Stands, behind}

-- What closes a sequence.

-- an `end` or an `else`
abbrev pub IsCloser : Op → Type 0
IsCloser End = Unit {0}
IsCloser (Else end) = Unit {0}
IsCloser o = ⊥

closer_behind : (o : Op) (at target : ℕ) → behind at (Some o) ≡ Some target → IsCloser o
closer_behind End at target e = tt
closer_behind (Else end) at target e = tt
closer_behind o at target e = let bad : ⊥ = cc in absurd bad

closer_found : (found : Option Op) (o : Op) (at target : ℕ) → found ≡ Some o → behind at found ≡ Some target → IsCloser o
closer_found found o at target e is = closer_behind o at target (subst (λ (x : Option Op). behind at x ≡ Some target) e is)

end_closes : (found : Option Op) (o : Op) → found ≡ Some o → found ≡ Some End → IsCloser o
end_closes found o e is =
    let same : End ≡ o = cc in
    subst (λ (x : Op). IsCloser x) same tt

-- the operator at the end of a sequence closes it
pub closes
    : (m : Module) (function : Function) (ops : List Op) (stop used locals : ℕ) (entries : List ℕ) (around : List Around) (labels : List Label) (frames : List Frame) (o : Op)
    → Chain m function ops stop used locals entries around labels frames → slice_get ops stop ≡ Some o → IsCloser o
closes m function ops stop used locals entries [] labels frames o chain e = absurd chain
closes m function ops stop used locals entries (AroundBlock t base rest ∷ around) [] frames o chain e = absurd chain
closes m function ops stop used locals entries (AroundBlock t base rest ∷ around) (l ∷ labels) frames o chain e =
    closer_found (slice_get ops stop) o stop l.target e chain.0.closes
closes m function ops stop used locals entries (AroundLoop t base body rest ∷ around) [] frames o chain e = absurd chain
closes m function ops stop used locals entries (AroundLoop t base body rest ∷ around) (l ∷ labels) frames o chain e =
    end_closes (slice_get ops stop) o e (ap (λ (k : ℕ). slice_get ops k) chain.0.turn ∙ chain.0.stands.2)
closes m function ops stop used locals entries (AroundCall t number caller rest ∷ around) labels [] o chain e = absurd chain
closes m function ops stop used locals entries (AroundCall t number caller rest ∷ around) labels (f ∷ []) o chain e =
    end_closes (slice_get ops stop) o e chain.0.closes
closes m function ops stop used locals entries (AroundCall t number caller rest ∷ around) labels (f ∷ g ∷ frames) o chain e =
    end_closes (slice_get ops stop) o e chain.0.closes
closes m function ops stop used locals entries (Entering number ∷ around) labels frames o chain e = absurd chain

-- Sequences.

-- what is known where a sequence stands at a place, and which operator is there
pub record Place (ops : List Op) (at : ℕ) (s : Sequence) (o : Op) : Type 0 where
  pub stands : Stands ops at s
  pub there : slice_get ops at ≡ Some o
  pub closed : slice_get ops (at + size s) ≡ Some o → IsCloser o

pub record PlainHere (o : Op) (s : Sequence) : Type 0 where
  pub rest : Sequence
  pub is : s ≡ Plain o rest

never : false ≡ true → ⊥
never e = let bad : ⊥ = cc in bad

not_closer : (o : Op) → IsPlain o → IsCloser o → ⊥
not_closer End plain closer = never plain
not_closer (Else end) plain closer = never plain
not_closer o plain closer = absurd closer

at_zero : (at : ℕ) → at + 0 ≡ at
at_zero at = omega arith

pub done_closes : (ops : List Op) (at : ℕ) (o : Op) → Place ops at Done o → IsCloser o
done_closes ops at o p = p.closed (ap (λ (k : ℕ). slice_get ops k) (at_zero at) ∙ p.there)

not_plain_block : (t : Option ValType) (end : ℕ) (o : Op) (found : Option Op) → found ≡ Some o → found ≡ Some (Block t end) → IsPlain o → ⊥
not_plain_block t end o found e is plain = let same : o ≡ Block t end = cc in never (subst (λ (x : Op). IsPlain x) same plain)

not_plain_loop : (t : Option ValType) (end : ℕ) (o : Op) (found : Option Op) → found ≡ Some o → found ≡ Some (Loop t end) → IsPlain o → ⊥
not_plain_loop t end o found e is plain = let same : o ≡ Loop t end = cc in never (subst (λ (x : Op). IsPlain x) same plain)

not_plain_if : (t : Option ValType) (other : Option ℕ) (end : ℕ) (o : Op) (found : Option Op) → found ≡ Some o → found ≡ Some (If t other end) → IsPlain o → ⊥
not_plain_if t other end o found e is plain = let same : o ≡ If t other end = cc in never (subst (λ (x : Op). IsPlain x) same plain)

pub plain_here : (ops : List Op) (at : ℕ) (s : Sequence) (o : Op) → Place ops at s o → IsPlain o → PlainHere o s
plain_here ops at Done o p plain = absurd (not_closer o plain (done_closes ops at o p))
plain_here ops at (Plain other rest) o p plain =
    let same : other ≡ o = given other o (slice_get ops at) p.stands.1 p.there in
    record { rest = rest; is = ap (λ (x : Op). Plain x rest) same }
  where
    given : (x y : Op) (found : Option Op) → found ≡ Some x → found ≡ Some y → x ≡ y
    given x y found e f = cc
plain_here ops at (InBlock t body rest) o p plain = absurd (not_plain_block t (at + 1 + size body) o (slice_get ops at) p.there p.stands.0 plain)
plain_here ops at (InLoop t body rest) o p plain = absurd (not_plain_loop t (at + 1 + size body) o (slice_get ops at) p.there p.stands.0 plain)
plain_here ops at (InIf t inner rest) o p plain = absurd (not_plain_if t None (at + 1 + size inner) o (slice_get ops at) p.there p.stands.0 plain)
plain_here ops at (InIfElse t inner other rest) o p plain =
    absurd (not_plain_if t (Some (at + 1 + size inner)) (at + 2 + size inner + size other) o (slice_get ops at) p.there p.stands.0 plain)

-- the operators that open a block are not plain
plain_is_not : (o other : Op) (found : Option Op) → found ≡ Some o → found ≡ Some other → IsPlain other → IsPlain o
plain_is_not o other found e is plain = let same : other ≡ o = cc in subst (λ (x : Op). IsPlain x) same plain

pub record BlockHere (t : Option ValType) (at end : ℕ) (s : Sequence) : Type 0 where
  pub body : Sequence
  pub rest : Sequence
  pub is : s ≡ InBlock t body rest
  pub end_is : end ≡ at + 1 + size body

pub block_here : (ops : List Op) (at : ℕ) (s : Sequence) (t : Option ValType) (end : ℕ) → Place ops at s (Block t end) → BlockHere t at end s
block_here ops at Done t end p = absurd (done_closes ops at (Block t end) p)
block_here ops at (Plain other rest) t end p = absurd (never (plain_is_not (Block t end) other (slice_get ops at) p.there p.stands.1 p.stands.0))
block_here ops at (InBlock u body rest) t end p = same_block ops at u body rest t end p.there p.stands.0
  where
    same_block
        : (ops : List Op) (at : ℕ) (u : Option ValType) (body rest : Sequence) (t : Option ValType) (end : ℕ)
        → slice_get ops at ≡ Some (Block t end) → slice_get ops at ≡ Some (Block u (at + 1 + size body)) → BlockHere t at end (InBlock u body rest)
    same_block ops at u body rest t end e f =
        let same_t : u ≡ t = cc in
        let same_end : end ≡ at + 1 + size body = cc in
        record { body = body; rest = rest; is = ap (λ (x : Option ValType). InBlock x body rest) same_t; end_is = same_end }
block_here ops at (InLoop u body rest) t end p = let e = p.there in let f = p.stands.0 in let bad : ⊥ = cc in absurd bad
block_here ops at (InIf u inner rest) t end p = let e = p.there in let f = p.stands.0 in let bad : ⊥ = cc in absurd bad
block_here ops at (InIfElse u inner other rest) t end p = let e = p.there in let f = p.stands.0 in let bad : ⊥ = cc in absurd bad

pub record LoopHere (t : Option ValType) (at end : ℕ) (s : Sequence) : Type 0 where
  pub body : Sequence
  pub rest : Sequence
  pub is : s ≡ InLoop t body rest
  pub end_is : end ≡ at + 1 + size body

pub loop_here : (ops : List Op) (at : ℕ) (s : Sequence) (t : Option ValType) (end : ℕ) → Place ops at s (Loop t end) → LoopHere t at end s
loop_here ops at Done t end p = absurd (done_closes ops at (Loop t end) p)
loop_here ops at (Plain other rest) t end p = absurd (never (plain_is_not (Loop t end) other (slice_get ops at) p.there p.stands.1 p.stands.0))
loop_here ops at (InBlock u body rest) t end p = let e = p.there in let f = p.stands.0 in let bad : ⊥ = cc in absurd bad
loop_here ops at (InLoop u body rest) t end p = same_loop ops at u body rest t end p.there p.stands.0
  where
    same_loop
        : (ops : List Op) (at : ℕ) (u : Option ValType) (body rest : Sequence) (t : Option ValType) (end : ℕ)
        → slice_get ops at ≡ Some (Loop t end) → slice_get ops at ≡ Some (Loop u (at + 1 + size body)) → LoopHere t at end (InLoop u body rest)
    same_loop ops at u body rest t end e f =
        let same_t : u ≡ t = cc in
        let same_end : end ≡ at + 1 + size body = cc in
        record { body = body; rest = rest; is = ap (λ (x : Option ValType). InLoop x body rest) same_t; end_is = same_end }
loop_here ops at (InIf u inner rest) t end p = let e = p.there in let f = p.stands.0 in let bad : ⊥ = cc in absurd bad
loop_here ops at (InIfElse u inner other rest) t end p = let e = p.there in let f = p.stands.0 in let bad : ⊥ = cc in absurd bad

pub record IfHere (t : Option ValType) (at end : ℕ) (s : Sequence) : Type 0 where
  pub inner : Sequence
  pub rest : Sequence
  pub is : s ≡ InIf t inner rest
  pub end_is : end ≡ at + 1 + size inner

pub if_here : (ops : List Op) (at : ℕ) (s : Sequence) (t : Option ValType) (end : ℕ) → Place ops at s (If t None end) → IfHere t at end s
if_here ops at Done t end p = absurd (done_closes ops at (If t None end) p)
if_here ops at (Plain other rest) t end p = absurd (never (plain_is_not (If t None end) other (slice_get ops at) p.there p.stands.1 p.stands.0))
if_here ops at (InBlock u body rest) t end p = let e = p.there in let f = p.stands.0 in let bad : ⊥ = cc in absurd bad
if_here ops at (InLoop u body rest) t end p = let e = p.there in let f = p.stands.0 in let bad : ⊥ = cc in absurd bad
if_here ops at (InIf u inner rest) t end p = same_if ops at u inner rest t end p.there p.stands.0
  where
    same_if
        : (ops : List Op) (at : ℕ) (u : Option ValType) (inner rest : Sequence) (t : Option ValType) (end : ℕ)
        → slice_get ops at ≡ Some (If t None end) → slice_get ops at ≡ Some (If u None (at + 1 + size inner)) → IfHere t at end (InIf u inner rest)
    same_if ops at u inner rest t end e f =
        let same_t : u ≡ t = cc in
        let same_end : end ≡ at + 1 + size inner = cc in
        record { inner = inner; rest = rest; is = ap (λ (x : Option ValType). InIf x inner rest) same_t; end_is = same_end }
if_here ops at (InIfElse u inner other rest) t end p = let e = p.there in let f = p.stands.0 in let bad : ⊥ = cc in absurd bad

pub record IfElseHere (t : Option ValType) (at between end : ℕ) (s : Sequence) : Type 0 where
  pub inner : Sequence
  pub other : Sequence
  pub rest : Sequence
  pub is : s ≡ InIfElse t inner other rest
  pub between_is : between ≡ at + 1 + size inner
  pub end_is : end ≡ at + 2 + size inner + size other

pub if_else_here
    : (ops : List Op) (at : ℕ) (s : Sequence) (t : Option ValType) (between end : ℕ) → Place ops at s (If t (Some between) end) → IfElseHere t at between end s
if_else_here ops at Done t between end p = absurd (done_closes ops at (If t (Some between) end) p)
if_else_here ops at (Plain other rest) t between end p =
    absurd (never (plain_is_not (If t (Some between) end) other (slice_get ops at) p.there p.stands.1 p.stands.0))
if_else_here ops at (InBlock u body rest) t between end p = let e = p.there in let f = p.stands.0 in let bad : ⊥ = cc in absurd bad
if_else_here ops at (InLoop u body rest) t between end p = let e = p.there in let f = p.stands.0 in let bad : ⊥ = cc in absurd bad
if_else_here ops at (InIf u inner rest) t between end p = let e = p.there in let f = p.stands.0 in let bad : ⊥ = cc in absurd bad
if_else_here ops at (InIfElse u inner other rest) t between end p = same_if ops at u inner other rest t between end p.there p.stands.0
  where
    same_if
        : (ops : List Op) (at : ℕ) (u : Option ValType) (inner other rest : Sequence) (t : Option ValType) (between end : ℕ)
        → slice_get ops at ≡ Some (If t (Some between) end)
        → slice_get ops at ≡ Some (If u (Some (at + 1 + size inner)) (at + 2 + size inner + size other))
        → IfElseHere t at between end (InIfElse u inner other rest)
    same_if ops at u inner other rest t between end e f =
        let same_t : u ≡ t = cc in
        let same_between : between ≡ at + 1 + size inner = cc in
        let same_end : end ≡ at + 2 + size inner + size other = cc in
        record {
          inner = inner;
          other = other;
          rest = rest;
          is = ap (λ (x : Option ValType). InIfElse x inner other rest) same_t;
          between_is = same_between;
          end_is = same_end;
        }

-- an `end` or an `else` stands behind a sequence alone
not_closer_plain : (o other : Op) (found : Option Op) → found ≡ Some o → found ≡ Some other → IsPlain other → IsCloser o → ⊥
not_closer_plain o other found e is plain closer = not_closer o (plain_is_not o other found e is plain) closer

not_closer_block : (o : Op) (t : Option ValType) (end : ℕ) (found : Option Op) → found ≡ Some o → found ≡ Some (Block t end) → IsCloser o → ⊥
not_closer_block o t end found e is closer = let same : o ≡ Block t end = cc in subst (λ (x : Op). IsCloser x) same closer

not_closer_loop : (o : Op) (t : Option ValType) (end : ℕ) (found : Option Op) → found ≡ Some o → found ≡ Some (Loop t end) → IsCloser o → ⊥
not_closer_loop o t end found e is closer = let same : o ≡ Loop t end = cc in subst (λ (x : Op). IsCloser x) same closer

not_closer_if : (o : Op) (t : Option ValType) (other : Option ℕ) (end : ℕ) (found : Option Op) → found ≡ Some o → found ≡ Some (If t other end) → IsCloser o → ⊥
not_closer_if o t other end found e is closer = let same : o ≡ If t other end = cc in subst (λ (x : Op). IsCloser x) same closer

pub done_here : (ops : List Op) (at : ℕ) (s : Sequence) (o : Op) → Place ops at s o → IsCloser o → s ≡ Done
done_here ops at Done o p closer = refl
done_here ops at (Plain other rest) o p closer = absurd (not_closer_plain o other (slice_get ops at) p.there p.stands.1 p.stands.0 closer)
done_here ops at (InBlock t body rest) o p closer = absurd (not_closer_block o t (at + 1 + size body) (slice_get ops at) p.there p.stands.0 closer)
done_here ops at (InLoop t body rest) o p closer = absurd (not_closer_loop o t (at + 1 + size body) (slice_get ops at) p.there p.stands.0 closer)
done_here ops at (InIf t inner rest) o p closer = absurd (not_closer_if o t None (at + 1 + size inner) (slice_get ops at) p.there p.stands.0 closer)
done_here ops at (InIfElse t inner other rest) o p closer =
    absurd (not_closer_if o t (Some (at + 1 + size inner)) (at + 2 + size inner + size other) (slice_get ops at) p.there p.stands.0 closer)
