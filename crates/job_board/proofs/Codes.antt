-- Words and how they are stored: one undoes the other; what a claim lays down keeps turns and rank.
use Rattle.std.proofs.Common.{◌≡◌, ℕ, zero, suc, ◌+◌, ◌*◌, ◌/◌, ◌%◌, ◌≤◌, refl, sym, ap, ◌∙◌, arith}
use Rattle.job_board.specs.Words.{number, numbered, rank, holders_in, IsResting, resting, held_state, held_of, word, code_of, word_of, Rises}
use Rattle.job_board.specs.declared.words.Kind.{Kind}
use Rattle.job_board.specs.declared.words.Kind.TheVariants as kind
use Rattle.job_board.specs.declared.words.State.{State}
use Rattle.job_board.specs.declared.words.State.TheVariants as state
use Rattle.job_board.specs.declared.words.Word.{Word}

pub number_few : (s : State) → number s ≤ 6
number_few state.Vacant = omega arith
number_few state.Waiting = omega arith
number_few state.Suspended = omega arith
number_few state.Answered = omega arith
number_few (state.Held kind.Waiting) = omega arith
number_few (state.Held kind.Suspended) = omega arith
number_few (state.Held kind.Answered) = omega arith

numbered-number : (s : State) → numbered (number s) ≡ s
numbered-number state.Vacant = refl
numbered-number state.Waiting = refl
numbered-number state.Suspended = refl
numbered-number state.Answered = refl
numbered-number (state.Held kind.Waiting) = refl
numbered-number (state.Held kind.Suspended) = refl
numbered-number (state.Held kind.Answered) = refl

number-numbered : (n : ℕ) → n ≤ 6 → number (numbered n) ≡ n
number-numbered zero few = refl
number-numbered (suc zero) few = refl
number-numbered (suc (suc zero)) few = refl
number-numbered (suc (suc (suc zero))) few = refl
number-numbered (suc (suc (suc (suc zero)))) few = refl
number-numbered (suc (suc (suc (suc (suc zero))))) few = refl
number-numbered (suc (suc (suc (suc (suc (suc n)))))) few = omega (arith, few)

pub code_few : (w : Word) → code_of w % 8 ≤ 6
code_few w = omega (arith, number_few w.state)

pub word_of-code_of : (w : Word) → word_of (code_of w) ≡ w
word_of-code_of w =
    let few = number_few w.state in
    let turns : code_of w / 8 ≡ w.turns = omega arith in
    let left : code_of w % 8 ≡ number w.state = omega arith in
    let s : numbered (code_of w % 8) ≡ w.state = ap numbered left ∙ numbered-number w.state in
    λ i. word (turns i) (s i)

pub code_of-word_of : (code : ℕ) → code % 8 ≤ 6 → code_of (word_of code) ≡ code
code_of-word_of code few = omega (arith, number-numbered (code % 8) few)

-- two states of a job that nobody holds are not those of one that is held
pub rank_held : (s : State) → IsResting s → rank (held_state s) ≡ rank s
rank_held state.Waiting rest = refl
rank_held state.Suspended rest = refl
rank_held state.Answered rest = refl
rank_held state.Vacant rest = absurd rest
rank_held (state.Held k) rest = absurd rest

pub one_holder : (s : State) → IsResting s → holders_in (held_state s) ≡ 1
one_holder state.Waiting rest = refl
one_holder state.Suspended rest = refl
one_holder state.Answered rest = refl
one_holder state.Vacant rest = absurd rest
one_holder (state.Held k) rest = absurd rest

pub no_holder : (s : State) → IsResting s → holders_in s ≡ 0
no_holder state.Waiting rest = refl
no_holder state.Suspended rest = refl
no_holder state.Answered rest = refl
no_holder state.Vacant rest = absurd rest
no_holder (state.Held k) rest = absurd rest

pub held_rests_not : (s : State) → IsResting s → IsResting (held_state s) → ⊥
held_rests_not state.Waiting rest held = held
held_rests_not state.Suspended rest held = held
held_rests_not state.Answered rest held = held
held_rests_not state.Vacant rest held = rest
held_rests_not (state.Held k) rest held = rest

pub held_is_taken : (s : State) → IsResting s → held_state s ≡ state.Vacant → ⊥
held_is_taken state.Waiting rest vacant = cc
held_is_taken state.Suspended rest vacant = cc
held_is_taken state.Answered rest vacant = cc
held_is_taken state.Vacant rest vacant = rest
held_is_taken (state.Held k) rest vacant = rest

pub rises_twice : (a b c : Word) → Rises a b → Rises b c → Rises a c
rises_twice a b c first next = (omega (arith, first.0, next.0), omega (arith, first.1, next.1))

pub resting_rests : (k : Kind) → IsResting (resting k)
resting_rests kind.Waiting = tt
resting_rests kind.Suspended = tt
resting_rests kind.Answered = tt

pub resting_is_there : (k : Kind) → resting k ≡ state.Vacant → ⊥
resting_is_there kind.Waiting e = cc
resting_is_there kind.Suspended e = cc
resting_is_there kind.Answered e = cc

pub resting_few : (k : Kind) → rank (resting k) ≤ 2
resting_few kind.Waiting = omega arith
resting_few kind.Suspended = omega arith
resting_few kind.Answered = omega arith
