-- The walk over the flat form of a sequence is the typing of the sequence.
use Rattle.std.proofs.Common.{◌≡◌, ℕ, ◌+◌, ◌≤◌, max, List, [], ◌∷◌, ◌++◌, length, Option, Some, Result, Ok, Err, refl, ap, sym, ◌∙◌, append_assoc, arith}
use Rattle.wasm_ops.specs.declared.types.ValType.{ValType}
use Rattle.wasm_ops.specs.declared.types.ValType.TheVariants.{I32}
use Rattle.wasm_ops.specs.declared.types.FuncType.{FuncType}
use Rattle.wasm_ops.specs.declared.modules.Module.{Module}
use Rattle.wasm_ops.specs.declared.modules.Body.{Body}
use Rattle.wasm_ops.specs.declared.operators.Op.{Op}
use Rattle.wasm_ops.specs.declared.operators.Op.TheVariants as op
use Rattle.wasm_ops.specs.Sequence.{Sequence, Done, Plain, InBlock, InLoop, InIf, InIfElse, IsPlain, IsNested, size, flat, flat_body}
use Rattle.wasm_meaning.specs.declared.blocks.BlockKind.{BlockKind}
use Rattle.wasm_meaning.specs.declared.blocks.BlockKind.TheVariants.{BlockBody, LoopBody, ThenBranch, ElseBranch}
use Rattle.wasm_meaning.specs.declared.violations.Violation.{Violation}
use Rattle.wasm_meaning.specs.ValidityChecks.{go_on}
use Rattle.wasm_meaning.specs.TypingOperands.{Walk, start, take_off, lay_result}
use Rattle.wasm_meaning.specs.Typing.{Context, plain, typed, next, enter, ended, back, leave, turn, depth, context_of, typed_body}
use Rattle.wasm_ops.specs.WellFormed.{IsWellFormedBody}
use Rattle.wasm_meaning.proofs.TypingLaws.{nested_is}
use Rattle.wasm_typing.specs.declared.measures.Measure.{Measure}
use Rattle.wasm_typing.specs.declared.stages.Stage.{Stage}
use Rattle.wasm_typing.specs.declared.stages.Stage.TheVariants.{Over}
use Rattle.wasm_typing.specs.Open.{Block, Open}
use Rattle.wasm_typing.specs.Scopes.{inside}
use Rattle.wasm_typing.specs.Steps.{Step, block_in, opened, left, behind, goes_on, pass, step, steps, go_further, begun, measured, body_measured}

abbrev standing : Walk → List Block → (deepest : ℕ) → Open
standing now around deepest = record { now = now; blocks = record { around = around; deepest = deepest } }

-- Steps in a row.

through
    : {A B C D E : Type 0} (r : Result A E) (f : A → Result B E) (g : B → Result D E) (h : A → Result C E) (k : C → Result D E)
    → ((x : A) → go_on (f x) g ≡ go_on (h x) k) → go_on (go_on r f) g ≡ go_on (go_on r h) k
through (Ok x) f g h k same = same x
through (Err e) f g h k same = refl

into
    : {A C D E : Type 0} (r : Result A E) (f : A → Result D E) (h : A → Result C E) (k : C → Result D E)
    → ((x : A) → f x ≡ go_on (h x) k) → go_on r f ≡ go_on (go_on r h) k
into (Ok x) f h k same = same x
into (Err e) f h k same = refl

-- what a step leads to
abbrev further : Context → List Op → Stage × Open → Result Open Violation
further cx ops made = go_further made.0 made.1 (λ next. steps cx ops next)

step_plain : (cx : Context) (o : Op) (walk : Open) → IsPlain o → step cx o walk ≡ pass cx o walk
step_plain cx (op.Block result end) walk is = let bad : ⊥ = cc in absurd bad
step_plain cx (op.Loop result end) walk is = let bad : ⊥ = cc in absurd bad
step_plain cx (op.If result other end) walk is = let bad : ⊥ = cc in absurd bad
step_plain cx (op.Else end) walk is = let bad : ⊥ = cc in absurd bad
step_plain cx op.End walk is = let bad : ⊥ = cc in absurd bad
step_plain cx o walk is = refl

-- the end of a block, behind which a sequence goes on
closes
    : (cx : Context) (kind : BlockKind) (result : Option ValType) (outer inner : Walk) (around : List Block) (rest : Sequence) (more ops : List Op) (d d' : ℕ)
    → ((after : Walk) → steps cx more (standing after around d) ≡ go_on (typed (inside cx around) rest after) (λ w. steps cx ops (standing w around d')))
    → steps cx (op.End ∷ more) (standing inner (block_in kind result outer ∷ around) d)
    ≡ go_on (go_on (leave kind result outer inner) (λ after. typed (inside cx around) rest after)) (λ w. steps cx ops (standing w around d'))
closes cx kind result outer inner around rest more ops d d' same = by_outcome (ended kind result inner)
  where
    by_outcome
        : (e : Result Walk Violation)
        → go_on (go_on e (λ done. goes_on (behind result (left (standing done (block_in kind result outer ∷ around) d))))) (further cx more)
        ≡ go_on (go_on (go_on e (λ done. Ok (next (lay_result result (back outer done))))) (λ after. typed (inside cx around) rest after)) (λ w. steps cx ops (standing w around d'))
    by_outcome (Ok done) = same (next (lay_result result (back outer done)))
    by_outcome (Err e) = refl

-- the second part of an `if`
turns
    : (cx : Context) (result : Option ValType) (outer inner : Walk) (around : List Block) (end : ℕ) (more : List Op) (d : ℕ)
    → steps cx (op.Else end ∷ more) (standing inner (block_in ThenBranch result outer ∷ around) d)
    ≡ go_on (turn result outer inner) (λ between. steps cx more (standing between (block_in ElseBranch result outer ∷ around) (max d (length around + 1))))
turns cx result outer inner around end more d = by_outcome (ended ElseBranch result inner)
  where
    by_outcome
        : (e : Result Walk Violation)
        → go_on (go_on e (λ done. goes_on (opened ElseBranch result (left (standing done (block_in ThenBranch result outer ∷ around) d))))) (further cx more)
        ≡ go_on (go_on e (λ done. Ok (enter (back outer done)))) (λ between. steps cx more (standing between (block_in ElseBranch result outer ∷ around) (max d (length around + 1))))
    by_outcome (Ok done) = refl
    by_outcome (Err e) = refl

pub walks
    : (cx : Context) (s : Sequence) (at : ℕ) (ops : List Op) (now : Walk) (around : List Block) (d d' : ℕ) → IsNested s → length around ≤ d
    → d' ≡ max d (length around + depth s)
    → steps cx (flat at s ++ ops) (standing now around d) ≡ go_on (typed (inside cx around) s now) (λ after. steps cx ops (standing after around d'))
walks cx Done at ops now around d d' is few deep =
    let same : d ≡ d' = omega arith in ap (λ (n : ℕ). steps cx ops (standing now around n)) same
walks cx (Plain o rest) at ops now around d d' is few deep =
    ap (λ (made : Step). go_on made (further cx (flat (at + 1) rest ++ ops))) (step_plain cx o (standing now around d) is.0)
    ∙ through (plain (inside cx around) o now) _ (further cx (flat (at + 1) rest ++ ops)) (λ after. typed (inside cx around) rest (next after))
    (λ after. steps cx ops (standing after around d')) (λ after. walks cx rest (at + 1) ops (next after) around d d' is.1 few deep)
walks cx (InBlock result body rest) at ops now around d d' is few deep =
    let after = flat (at + 2 + size body) rest in
    let b = block_in BlockBody result now in
    let d1 = max d (length around + 1) in
    let d2 = max d1 (length around + 1 + depth body) in
    let room : length (b ∷ around) ≤ d1 = omega arith in
    let within : d2 ≡ max d1 (length (b ∷ around) + depth body) = omega arith in
    let few' : length around ≤ d2 = omega arith in
    let whole : d' ≡ max d2 (length around + depth rest) = omega arith in
    ap (λ (all : List Op). steps cx all (standing (enter now) (b ∷ around) d1)) (append_assoc (flat (at + 1) body) (op.End ∷ after) ops)
    ∙ (walks cx body (at + 1) (op.End ∷ (after ++ ops)) (enter now) (b ∷ around) d1 d2 is.0 room within
    ∙ into (typed (inside cx (b ∷ around)) body (enter now)) _ (λ inner. go_on (leave BlockBody result now inner) (λ w. typed (inside cx around) rest w)) (λ w. steps cx ops (standing w around d'))
    (λ inner. closes cx BlockBody result now inner around rest (after ++ ops) ops d2 d' (λ w. walks cx rest (at + 2 + size body) ops w around d2 d' is.1 few' whole)))
walks cx (InLoop result body rest) at ops now around d d' is few deep =
    let after = flat (at + 2 + size body) rest in
    let b = block_in LoopBody result now in
    let d1 = max d (length around + 1) in
    let d2 = max d1 (length around + 1 + depth body) in
    let room : length (b ∷ around) ≤ d1 = omega arith in
    let within : d2 ≡ max d1 (length (b ∷ around) + depth body) = omega arith in
    let few' : length around ≤ d2 = omega arith in
    let whole : d' ≡ max d2 (length around + depth rest) = omega arith in
    ap (λ (all : List Op). steps cx all (standing (enter now) (b ∷ around) d1)) (append_assoc (flat (at + 1) body) (op.End ∷ after) ops)
    ∙ (walks cx body (at + 1) (op.End ∷ (after ++ ops)) (enter now) (b ∷ around) d1 d2 is.0 room within
    ∙ into (typed (inside cx (b ∷ around)) body (enter now)) _ (λ inner. go_on (leave LoopBody result now inner) (λ w. typed (inside cx around) rest w)) (λ w. steps cx ops (standing w around d'))
    (λ inner. closes cx LoopBody result now inner around rest (after ++ ops) ops d2 d' (λ w. walks cx rest (at + 2 + size body) ops w around d2 d' is.1 few' whole)))
walks cx (InIf result inner rest) at ops now around d d' is few deep =
    let after = flat (at + 2 + size inner) rest in
    let d1 = max d (length around + 1) in
    let d2 = max d1 (length around + 1 + depth inner) in
    let few' : length around ≤ d2 = omega arith in
    let whole : d' ≡ max d2 (length around + depth rest) = omega arith in
    through (take_off (Some I32) now) (λ outer. goes_on (opened ThenBranch result (standing outer around d)))
    (further cx ((flat (at + 1) inner ++ op.End ∷ after) ++ ops)) _ (λ w. steps cx ops (standing w around d'))
    (λ outer. let b = block_in ThenBranch result outer in
    let room : length (b ∷ around) ≤ d1 = omega arith in
    let within : d2 ≡ max d1 (length (b ∷ around) + depth inner) = omega arith in
    ap (λ (all : List Op). steps cx all (standing (enter outer) (b ∷ around) d1)) (append_assoc (flat (at + 1) inner) (op.End ∷ after) ops)
    ∙ (walks cx inner (at + 1) (op.End ∷ (after ++ ops)) (enter outer) (b ∷ around) d1 d2 is.0 room within
    ∙ into (typed (inside cx (b ∷ around)) inner (enter outer)) _ (λ one. go_on (leave ThenBranch result outer one) (λ w. typed (inside cx around) rest w)) (λ w. steps cx ops (standing w around d'))
    (λ one. closes cx ThenBranch result outer one around rest (after ++ ops) ops d2 d' (λ w. walks cx rest (at + 2 + size inner) ops w around d2 d' is.1 few' whole))))
walks cx (InIfElse result inner other rest) at ops now around d d' is few deep =
    let after = flat (at + 3 + size inner + size other) rest in
    let second = flat (at + 2 + size inner) other in
    let end = at + 2 + size inner + size other in
    let d1 = max d (length around + 1) in
    let d2 = max d1 (length around + 1 + depth inner) in
    let d3 = max d2 (length around + 1) in
    let d4 = max d3 (length around + 1 + depth other) in
    let few' : length around ≤ d4 = omega arith in
    let whole : d' ≡ max d4 (length around + depth rest) = omega arith in
    through (take_off (Some I32) now) (λ outer. goes_on (opened ThenBranch result (standing outer around d)))
    (further cx ((flat (at + 1) inner ++ op.Else end ∷ (second ++ op.End ∷ after)) ++ ops)) _ (λ w. steps cx ops (standing w around d'))
    (λ outer. let b = block_in ThenBranch result outer in
    let e = block_in ElseBranch result outer in
    let room : length (b ∷ around) ≤ d1 = omega arith in
    let within : d2 ≡ max d1 (length (b ∷ around) + depth inner) = omega arith in
    let room' : length (e ∷ around) ≤ d3 = omega arith in
    let within' : d4 ≡ max d3 (length (e ∷ around) + depth other) = omega arith in
    ap (λ (all : List Op). steps cx all (standing (enter outer) (b ∷ around) d1)) (append_assoc (flat (at + 1) inner) (op.Else end ∷ (second ++ op.End ∷ after)) ops)
    ∙ (walks cx inner (at + 1) (op.Else end ∷ ((second ++ op.End ∷ after) ++ ops)) (enter outer) (b ∷ around) d1 d2 is.0 room within
    ∙ into (typed (inside cx (b ∷ around)) inner (enter outer)) _ _ (λ w. steps cx ops (standing w around d'))
    (λ one. turns cx result outer one around end ((second ++ op.End ∷ after) ++ ops) d2
    ∙ into (turn result outer one) _ _ (λ w. steps cx ops (standing w around d'))
    (λ between.
    ap (λ (all : List Op). steps cx all (standing between (e ∷ around) d3)) (append_assoc second (op.End ∷ after) ops)
    ∙ (walks cx other (at + 2 + size inner) (op.End ∷ (after ++ ops)) between (e ∷ around) d3 d4 is.1 room' within'
    ∙ into (typed (inside cx (e ∷ around)) other between) _ (λ two. go_on (leave ElseBranch result outer two) (λ w. typed (inside cx around) rest w)) (λ w. steps cx ops (standing w around d'))
    (λ two. closes cx ElseBranch result outer two around rest (after ++ ops) ops d4 d' (λ w. walks cx rest (at + 3 + size inner + size other) ops w around d4 d' is.2 few' whole)))))))

-- a whole body, whose last operator closes it
whole : (cx : Context) (s : Sequence) → IsNested s → steps cx (flat_body s) begun ≡ go_on (typed_body cx s) (λ walk. Ok (standing walk [] (depth s)))
whole cx s is =
    walks cx s 0 (op.End ∷ []) start [] 0 (depth s) is (omega arith) (omega arith)
    ∙ into (typed cx s start) _ (ended BlockBody cx.result) (λ walk. Ok (standing walk [] (depth s))) (λ walk. by_outcome (ended BlockBody cx.result walk))
  where
    by_outcome
        : (e : Result Walk Violation)
        → go_on (go_on e (λ done. Ok (Over, standing done [] (depth s)))) (further cx []) ≡ go_on e (λ walk. Ok (standing walk [] (depth s)))
    by_outcome (Ok done) = refl
    by_outcome (Err e) = refl

-- what is measured of a body that was read
pub body_is
    : (m : Module) (type : FuncType) (body : Body) (locals : List ValType) (targets : List ℕ) (ops : List Op) → IsWellFormedBody body
    → locals ≡ type.params ++ body.locals → targets ≡ body.targets → ops ≡ body.ops
    → measured (steps (record { whole = m; locals = locals; targets = targets; result = type.result; labels = type.result ∷ [] }) ops begun)
    ≡ body_measured m type body
body_is m type body locals targets ops formed locals_are targets_are ops_are =
    let cx = context_of m type body in
    let s = formed.sequence in
    let nested = nested_is body.ops s formed.stands in
    let walked = ap (λ (all : List Op). steps cx all begun) formed.stands.laid_out ∙ whole cx s formed.stands.nested in
    rw (locals_are, targets_are, ops_are) (ap measured walked ∙ (by_outcome s (typed_body cx s) ∙ ap (λ (t : Sequence). of_sequence cx t) (sym nested)))
  where
    of_sequence : Context → Sequence → Result Measure Violation
    of_sequence cx t = go_on (typed_body cx t) (λ walk. Ok (record { height = walk.most; nest = depth t }))

    by_outcome
        : (s : Sequence) (r : Result Walk Violation)
        → measured (go_on r (λ walk. Ok (standing walk [] (depth s)))) ≡ go_on r (λ walk. Ok (record { height = walk.most; nest = depth s }))
    by_outcome s (Ok walk) = refl
    by_outcome s (Err e) = refl
