-- What a turn makes of a sandbox that stands for the rest of its request's run.
use Rattle.std.proofs.Common.{◌≡◌, ◌≢◌, ◌⊎◌, ◌↔◌, inl, inr, ℕ, zero, suc, ◌+◌, ◌-◌, ◌≤◌, ◌<◌, ◌^◌, max, List, [], ◌∷◌, ◌++◌, length, sum, Option, Some, refl, sym, ap, subst, ◌∙◌, append_assoc, append-nil, arith}
use Rattle.wasm_meaning.specs.HostCalls.{Streams}
use Rattle.wasm_meaning.specs.Pending.{Pending, onward}
use Rattle.wasm_meaning.specs.Programs.{Program, instance_of, unused, first}
use Rattle.wasm_meaning.specs.Requests.{Request, Verdict, run_of, concluded, verdict_of, verdict, prices, units}
use Rattle.wasm_meaning.specs.State.{Outcome, Run, paid}
use Rattle.wasm_meaning.specs.Turns.{groups, turns, IsShortest}
use Rattle.wasm_store.specs.View.{View}
use Rattle.wasm_states.specs.Holding.{Holds, Begins, fresh_view}
use Rattle.wasm_states.specs.Steps.{Pays}
use Rattle.sandbox_states.proofs.GroupLaws.{sum_join, rest_is, all_paid, first_group, turns_left}
use Rattle.sandbox_states.specs.Onward.{HasPending, RunsFor}
use Rattle.sandbox_states.specs.Paths.{outcome_of, Onwards, Path, Reaches, Finishes, TurnsOn}
use Rattle.sandbox_states.specs.Rests.{prices_after, ArePaid}
use Rattle.sandbox_states.specs.Sound.{IsSound}
use Rattle.sandbox_states.specs.Stands.{StandsFor, StandsInTurns, IsOneTurn, IsLastTurn, IsTurnOf, IsSuspended, AnswersFor, AnswersIn, TurnStandsFor, TurnStandsInTurns}
use Rattle.sandbox_states.specs.Views.{AdmittedView, SandboxView, FinishedView, remaining, request_of, stopped, started}
use Rattle.sandbox_states.specs.declared.runs.Ending.{Ending}
use Rattle.sandbox_states.specs.declared.turns.Turn.{Turn}
use Rattle.sandbox_states.specs.declared.turns.Turn.TheVariants as turn

-- Where a request begins.

pub begins_sound
    : (p : Program) (v : View) (streams : Streams) (budget : ℕ) → Begins p v → streams ≡ unused streams.body → budget ≤ 2 ^ 40 → IsSound p v streams 0 budget 0
begins_sound p v streams budget begins fresh few =
    let whole : 0 + budget ≡ budget = omega arith in
    record {
      budget = omega (arith, few);
      counted = omega arith;
      pending = first p streams.body;
      holds = begins.holds streams.body;
      streams_are = sym fresh;
      before = [];
      least = tt;
      units_are = refl;
      run = ap (λ (l : ℕ). onward (instance_of p) (0 + budget) (first p streams.body) l) whole;
    }

pub stands_at_start : (request : Request) (s : SandboxView) → s.request ≡ request → s.units ≡ 0 → StandsFor request s
stands_at_start request s same none = record {
  of = same;
  before = [];
  paid = sym none;
  prices_are = ap (λ (r : Request). prices r) (sym same) ∙ ap (λ (n : ℕ). prices_after n (prices s.request)) (sym none);
}

pub in_turns_at_start : (request : Request) (quantum : ℕ) (s : SandboxView) → s.request ≡ request → s.units ≡ 0 → s.turns ≡ 0 → StandsInTurns request quantum s
unfolding stands_at_start
in_turns_at_start request quantum s same none zero_turns =
    let stands = stands_at_start request s same none in
    let left : turns (remaining s) quantum ≡ turns (prices request) quantum = ap (λ (ps : List ℕ). turns ps quantum) (sym stands.prices_are) in
    record { stands = stands; in_all = omega (arith, zero_turns, left) }

abbrev sandbox : (place deadline budget pages : ℕ) → Request → View → Streams → SandboxView
sandbox place deadline budget pages r v s = record {
  place = place;
  deadline = deadline;
  pages = pages;
  request = r;
  units = 0;
  turns = 0;
  left = budget;
  vessel = v;
  streams = s;
}

begins_as
    : (place deadline budget pages pages' : ℕ) (r r' : Request) (v v' : View) (s s' : Streams) → pages ≡ pages' → r ≡ r' → v ≡ v' → s ≡ s'
    → sandbox place deadline budget pages r v s ≡ sandbox place deadline budget pages' r' v' s'
begins_as place deadline budget pages pages' r r' v v' s s' a b c d = λ i. sandbox place deadline budget (a i) (b i) (c i) (d i)

-- what `start` makes
pub started_is
    : (p p' : Program) → p' ≡ p → (place deadline budget : ℕ) (streams : Streams) (v v' : View) (job : AdmittedView) (berth : View)
    → record { place = place; deadline = deadline; request = request_of p streams budget } ≡ job → streams ≡ unused streams.body → v ≡ berth → v' ≡ fresh_view p' v.pages
    → stopped place deadline p v' streams 0 budget 0 ≡ started job berth
started_is p p' same place deadline budget streams v v' job berth seen fresh on begun =
    let there : v' ≡ fresh_view p berth.pages = begun ∙ ap (λ (x : Program). fresh_view x v.pages) same ∙ ap (λ (x : View). fresh_view p x.pages) on in
    let whole : 0 + budget ≡ budget = omega arith in
    begins_as place deadline budget v'.pages berth.pages (request_of p streams (0 + budget)) (request_of p streams budget) v' (fresh_view p berth.pages) streams (unused streams.body)
    (ap (λ (x : View). x.pages) there) (ap (λ (b : ℕ). request_of p streams b) whole) there fresh
    ∙ ap (λ (j : AdmittedView). started j berth) seen

-- A turn.

made : Program → List ℕ → ℕ → Request
made p body budget = record { program = p; body = body; budget = budget }

module _ (p : Program) (v : View) (streams : Streams) (had left count : ℕ) (sound : IsSound p v streams had left count) where
  run_left : Run
  run_left = onward (instance_of p) (had + left) sound.pending left

  -- what is still to be paid is what running on from what is pending pays
  remaining_is : prices_after had (prices (request_of p streams (had + left))) ≡ (onward (instance_of p) (had + left) sound.pending left).prices
  remaining_is =
      ap (λ (r : Run). prices_after had r.prices) sound.run
      ∙ ap (λ (n : ℕ). prices_after n (sound.before ++ (onward (instance_of p) (had + left) sound.pending left).prices)) (sym sound.units_are)
      ∙ rest_is sound.before (onward (instance_of p) (had + left) sound.pending left).prices sound.least

  -- so the sandbox stands for its request in full
  pub runs_for : (place deadline : ℕ) (s : SandboxView) → stopped place deadline p v streams had left count ≡ s → RunsFor s.request s
  runs_for place deadline s seen = subst (λ (x : SandboxView). RunsFor x.request x) seen (record {
    same_program = refl;
    same_body = refl;
    same_budget = refl;
    pending = sound.pending;
    has = record { holds = sound.holds; streams_are = sound.streams_are };
    same_verdict = sym (ap (λ (r : Run). verdict_of r) sound.run);
    remaining_are = remaining_is;
    before = sound.before;
    paid = sound.units_are;
    same_prices = ap (λ (r : Run). r.prices) sound.run;
  })

  module _ (v' : View) (streams' : Streams) (got : ℕ) (within : got ≤ left) (same_body : streams'.body ≡ streams.body) where
    same_budget : had + got + (left - got) ≡ had + left
    same_budget = omega (arith, within)

    same_request : request_of p streams' (had + got + (left - got)) ≡ request_of p streams (had + left)
    unfolding made
    same_request =
        ap (λ (body : List ℕ). made p body (had + got + (left - got))) same_body ∙ ap (λ (budget : ℕ). made p streams.body budget) same_budget

    module _ (quantum : ℕ) (t : TurnsOn quantum p sound.pending v' streams' got) where
      paid_then : onward (instance_of p) (had + left) sound.pending left ≡ paid t.reached.group (onward (instance_of p) (had + left) t.reached.path.next (left - got))
      paid_then =
          let total = t.reached.total in
          let whole : left ≡ sum t.reached.group + (left - got) = omega (arith, total, within) in
          ap (λ (l : ℕ). onward (instance_of p) (had + left) sound.pending l) whole
          ∙ t.reached.path.onwards.same (had + left) (left - got) (omega (arith, whole))

      pub turned : 1 ≤ got → IsSound p v' streams' (had + got) (left - got) (count + 1)
      turned least =
          let budget = sound.budget in
          let counted = sound.counted in
          let total = t.reached.total in
          let units_are = sound.units_are in
          let next = t.reached.path.next in
          record {
            budget = omega (arith, budget, within);
            counted = omega (arith, counted, least);
            pending = next;
            holds = t.reached.path.holds;
            streams_are = t.reached.path.streams_are;
            before = sound.before ++ t.reached.group;
            least = all_paid sound.before t.reached.group sound.least t.reached.path.onwards.least;
            units_are = omega (arith, units_are, total, sum_join sound.before t.reached.group);
            run = ap (λ (r : Request). run_of r) same_request
                ∙ sound.run
                ∙ ap (λ (r : Run). paid sound.before r) paid_then
                ∙ ap (λ (ps : List ℕ). record (onward (instance_of p) (had + left) next (left - got)) { prices = ps }) (sym (append_assoc sound.before t.reached.group (onward (instance_of p) (had + left) next (left - got)).prices))
                ∙ ap (λ (b : ℕ). paid (sound.before ++ t.reached.group) (onward (instance_of p) b next (left - got))) (sym same_budget);
          }

      pub one_turn
          : (place deadline : ℕ) → 1 ≤ got → v'.pages ≡ v.pages
          → IsOneTurn quantum (stopped place deadline p v streams had left count) (stopped place deadline p v' streams' (had + got) (left - got) (count + 1))
      unfolding turned
      one_turn place deadline least pages =
          let next = t.reached.path.next in
          let new_remaining = remaining (stopped place deadline p v' streams' (had + got) (left - got) (count + 1)) in
          let new_is : new_remaining ≡ (onward (instance_of p) (had + left) next (left - got)).prices =
          remaining_after least ∙ ap (λ (b : ℕ). (onward (instance_of p) b next (left - got)).prices) same_budget in
          let rest : remaining (stopped place deadline p v streams had left count) ≡ t.reached.group ++ new_remaining =
          remaining_is ∙ ap (λ (r : Run). r.prices) paid_then ∙ ap (λ (ps : List ℕ). t.reached.group ++ ps) (sym new_is) in
          let total = t.reached.total in
          record {
            same_place = refl;
            same_deadline = refl;
            same_pages = pages;
            same_request = same_request;
            counted = refl;
            group = t.reached.group;
            paid = omega (arith, total);
            rest = rest;
            cut = ap (λ (ps : List ℕ). groups ps quantum) rest ∙ first_group quantum t.reached.group new_remaining t.reached.cut;
            more = λ none. t.pays.pays (had + left) (left - got) (sym new_is ∙ none);
          }
        where
          remaining_after : 1 ≤ got → prices_after (had + got) (prices (request_of p streams' (had + got + (left - got)))) ≡ (onward (instance_of p) (had + got + (left - got)) t.reached.path.next (left - got)).prices
          remaining_after least =
              let after = turned least in
              ap (λ (r : Run). prices_after (had + got) r.prices) after.run
              ∙ ap (λ (n : ℕ). prices_after n (after.before ++ (onward (instance_of p) (had + got + (left - got)) t.reached.path.next (left - got)).prices)) (sym after.units_are)
              ∙ rest_is after.before (onward (instance_of p) (had + got + (left - got)) t.reached.path.next (left - got)).prices after.least

  -- the last turn
  pub last_turn
      : (streams' : Streams) (got quantum : ℕ) (end : Ending) (given : Verdict) (place deadline pages' : ℕ) → Finishes quantum p sound.pending left streams' end got
      → concluded (outcome_of end) streams'.reply ≡ Some given → pages' ≡ v.pages
      → IsLastTurn quantum (stopped place deadline p v streams had left count) (record { place = place; pages = pages'; verdict = given; units = had + got; turns = count + 1 })
  last_turn streams' got quantum end given place deadline pages' f told pages =
      let c = f.closes.at (had + left) (omega arith) in
      let left_is : remaining (stopped place deadline p v streams had left count) ≡ f.prices = remaining_is ∙ c.prices_are in
      let total = f.total in
      let sum_is : sum (remaining (stopped place deadline p v streams had left count)) ≡ sum f.prices = ap (λ (ps : List ℕ). sum ps) left_is in
      record {
        same_place = refl;
        same_pages = pages;
        counted = refl;
        became = ap (λ (r : Run). verdict_of r) sound.run
            ∙ ap (λ (o : Outcome). concluded o (onward (instance_of p) (had + left) sound.pending left).state.store.streams.reply) c.outcome_is
            ∙ ap (λ (reply : List ℕ). concluded (outcome_of end) reply) c.reply_is ∙ told;
        paid = omega (arith, total, sum_is);
        last = ap (λ (ps : List ℕ). turns ps quantum) left_is ∙ f.last;
      }

-- The same, told by what a turn answers.

module _ (p p' : Program) (same : p' ≡ p) (v v' : View) (streams streams' : Streams) (had left count got quantum : ℕ) (sound : IsSound p v streams had left count) where
  pub turn_sound
      : ((w : Pending) → Holds p' v w → w.state.store.streams ≡ streams → TurnsOn quantum p' w v' streams' got) → 1 ≤ got → got ≤ left → streams'.body ≡ streams.body
      → IsSound p v' streams' (had + got) (left - got) (count + 1)
  turn_sound means least within body =
      let t = subst (λ (x : Program). (w : Pending) → Holds x v w → w.state.store.streams ≡ streams → TurnsOn quantum x w v' streams' got) same means sound.pending sound.holds sound.streams_are in
      turned p v streams had left count sound v' streams' got within body quantum t least

  pub turn_reached
      : (old : SandboxView) (place deadline : ℕ) → stopped place deadline p v streams had left count ≡ old
      → ((w : Pending) → Holds p' v w → w.state.store.streams ≡ streams → TurnsOn quantum p' w v' streams' got) → 1 ≤ got → got ≤ left → streams'.body ≡ streams.body → v'.pages ≡ v.pages
      → IsOneTurn quantum old (stopped place deadline p v' streams' (had + got) (left - got) (count + 1))
  turn_reached old place deadline seen means least within body pages =
      let t = subst (λ (x : Program). (w : Pending) → Holds x v w → w.state.store.streams ≡ streams → TurnsOn quantum x w v' streams' got) same means sound.pending sound.holds sound.streams_are in
      subst (λ (s : SandboxView). IsOneTurn quantum s (stopped place deadline p v' streams' (had + got) (left - got) (count + 1))) seen
      (one_turn p v streams had left count sound v' streams' got within body quantum t place deadline least pages)

  pub turn_over
      : (old : SandboxView) (place deadline : ℕ) (end : Ending) (given : Verdict) → stopped place deadline p v streams had left count ≡ old
      → ((w : Pending) → Holds p' v w → w.state.store.streams ≡ streams → Finishes quantum p' w left streams' end got)
      → concluded (outcome_of end) streams'.reply ≡ Some given → v'.pages ≡ v.pages
      → IsLastTurn quantum old (record { place = place; pages = v'.pages; verdict = given; units = had + got; turns = count + 1 })
  turn_over old place deadline end given seen means told pages =
      let f = subst (λ (x : Program). (w : Pending) → Holds x v w → w.state.store.streams ≡ streams → Finishes quantum x w left streams' end got) same means sound.pending sound.holds sound.streams_are in
      subst (λ (s : SandboxView). IsLastTurn quantum s (record { place = place; pages = v'.pages; verdict = given; units = had + got; turns = count + 1 })) seen
      (last_turn p v streams had left count sound streams' got quantum end given place deadline v'.pages f told pages)

-- Laws of turns.

pub suspended_exactly : (quantum : ℕ) (old : SandboxView) (t : Turn) → IsTurnOf quantum old t → IsSuspended t ↔ (2 ≤ turns (remaining old) quantum)
suspended_exactly quantum old (turn.Suspended new) one =
    let more = turns_left quantum (remaining old) one.group (remaining new) one.cut one.more in
    ((λ here. omega (arith, more)), (λ two. tt))
suspended_exactly quantum old (turn.Done new) one =
    let last = one.last in
    ((λ here. absurd here), (λ two. let bad : ⊥ = omega (arith, last, two) in bad))

pub keeps_one : (quantum : ℕ) (request : Request) (old new : SandboxView) → StandsFor request old → IsOneTurn quantum old new → StandsFor request new
keeps_one quantum request old new s one =
    let had = s.paid in
    let paid_is = one.paid in
    record {
      of = one.same_request ∙ s.of;
      before = s.before ++ one.group;
      paid = omega (arith, had, paid_is, sum_join s.before one.group);
      prices_are = s.prices_are ∙ ap (λ (ps : List ℕ). s.before ++ ps) one.rest ∙ sym (append_assoc s.before one.group (remaining new));
    }

pub keeps_one_in_turns
    : (quantum : ℕ) (request : Request) (old new : SandboxView) → StandsInTurns request quantum old → IsOneTurn quantum old new → StandsInTurns request quantum new
keeps_one_in_turns quantum request old new s one =
    let more = turns_left quantum (remaining old) one.group (remaining new) one.cut one.more in
    let counted = one.counted in
    let in_all = s.in_all in
    record { stands = keeps_one quantum request old new s.stands one; in_all = omega (arith, more, counted, in_all) }

pub keeps_last : (quantum : ℕ) (request : Request) (old : SandboxView) (new : FinishedView) → StandsFor request old → IsLastTurn quantum old new → AnswersFor request new.verdict new.units
keeps_last quantum request old new s one =
    let had = s.paid in
    let paid_is = one.paid in
    let all : sum (prices request) ≡ sum (s.before ++ remaining old) = ap (λ (ps : List ℕ). sum ps) s.prices_are in
    record {
      verdict_is = ap (λ (r : Request). verdict r) (sym s.of) ∙ one.became;
      units_are = omega (arith, had, paid_is, all, sum_join s.before (remaining old));
    }

pub keeps_last_in_turns
    : (quantum : ℕ) (request : Request) (old : SandboxView) (new : FinishedView) → StandsInTurns request quantum old → IsLastTurn quantum old new
    → AnswersIn request quantum new.verdict new.units new.turns
keeps_last_in_turns quantum request old new s one =
    let counted = one.counted in
    let last = one.last in
    let in_all = s.in_all in
    record { answers = keeps_last quantum request old new s.stands one; turns_are = omega (arith, counted, last, in_all) }

pub turn_keeps : (quantum : ℕ) (old : SandboxView) (t : Turn) → IsTurnOf quantum old t → (request : Request) → StandsFor request old → TurnStandsFor request t
turn_keeps quantum old (turn.Suspended new) one request s = keeps_one quantum request old new s one
turn_keeps quantum old (turn.Done new) one request s = keeps_last quantum request old new s one

pub turn_keeps_in_turns : (quantum : ℕ) (old : SandboxView) (t : Turn) → IsTurnOf quantum old t → (request : Request) → StandsInTurns request quantum old → TurnStandsInTurns request quantum t
turn_keeps_in_turns quantum old (turn.Suspended new) one request s = keeps_one_in_turns quantum request old new s one
turn_keeps_in_turns quantum old (turn.Done new) one request s = keeps_last_in_turns quantum request old new s one
