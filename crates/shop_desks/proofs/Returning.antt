-- What a put leaves of a desk.
use Rattle.std.proofs.Common.{◌≡◌, ⊎_elim, ℕ, ◌<◌, ◌≤◌, List, [], ◌∷◌, ◌++◌, length, Option, Some, None, option_map, refl, sym, ap, subst, ◌∙◌, arith, length-append}
use Rattle.std.proofs.lemmas.List.Elements.{All-push}
use Rattle.std.specs.List.{All}
use Rattle.job_board.specs.Boarding as boards
use Rattle.job_board.specs.Boarding.{putting}
use Rattle.job_board.specs.declared.words.Word.{Word}
use Rattle.memory_pool.specs.Passing as pools
use Rattle.memory_pool.specs.Passing.{PoolView}
use Rattle.posted_jobs.specs.Posting.{PostedView}
use Rattle.run_queues.specs.Queue.{Queue}
use Rattle.run_queues.specs.declared.entries.Entry.{Entry}
use Rattle.sandbox_states.specs.Stands.{AnswersFor, StandsFor, IsOneTurn, IsLastTurn}
use Rattle.sandbox_states.specs.Views.{SandboxView, FinishedView, AnswerView}
use Rattle.wasm_meaning.specs.Requests.{Request}
use Rattle.wasm_store.specs.View.{View}
use Rattle.worker_desks.proofs.Finding.{AreOf, KeepsPass, kept-after, kept-same}
use Rattle.worker_desks.specs.Duties.{OfDuty, IsDelivered}
use Rattle.worker_desks.specs.Sharing.{IsEntryOf}
use Rattle.shop_desks.specs.Desks.{HandedView, ShopDeskView, IsDeskOf, OutStands, IsGivenBack, begins_in, many_out, state_of}

abbrev pub AnswersEnd : Type 0
AnswersEnd = (request : Request) (quantum : ℕ) (old : SandboxView) (new : FinishedView) → StandsFor request old → IsLastTurn quantum old new → AnswersFor request new.verdict new.units

pub answers-over : (request : Request) (quantum : ℕ) (old : SandboxView) (answer : AnswerView) (berth : View) → AnswersEnd → StandsFor request old → IsDelivered quantum old answer berth → AnswersFor request answer.verdict answer.units
answers-over request quantum old answer berth end stands over =
    subst (λ (a : AnswerView). AnswersFor request a.verdict a.units) (sym over.answered) (end request quantum old over.finished stands over.last)

-- the place of the duty that is out is the board's, and it is one
inside-out : (out : Option HandedView) (pass : boards.PassView PostedView) (q : ℕ) (s : SandboxView) → OutStands out pass → OfDuty (option_map begins_in out) (λ old. IsOneTurn q old s) → s.place < 256
inside-out None pass q s stands of = absurd of
inside-out (Some handed) pass q s stands of = omega (arith, stands.inside, of.same_place)

one-out : (out : Option HandedView) (q : ℕ) (s : SandboxView) → OfDuty (option_map begins_in out) (λ old. IsOneTurn q old s) → many_out out ≡ 1
one-out None q s of = absurd of
one-out (Some handed) q s of = refl

abbrev pub IsTurned : (v : ShopDeskView) → SandboxView → Type 0
IsTurned v s = OfDuty (state_of v).out (λ old. IsOneTurn (state_of v).quantum old s)

-- the entry that is pushed is of a place of the board
pub desk-put-back : (d v : ShopDeskView) → d ≡ v → IsDeskOf d → (s : SandboxView) → IsTurned v s → (entry : Entry) → entry.place ≡ s.place → entry.turns ≤ 1099511627776 → (pass : boards.PassView PostedView) (place : ℕ) (w : Word) → pass ≡ putting d.board_pass place w
    → (local : Queue) → local ≡ record d.local { entries = d.local.entries ++ entry ∷ [] } → (out : Option HandedView) → out ≡ None → IsDeskOf (record d { board_pass = pass; local = local; out = out })
desk-put-back d v same i s of entry here few pass place w put local pushed out gone =
    let now : IsTurned d s = subst (λ (x : ShopDeskView). IsTurned x s) (sym same) of in
    let one : many_out d.out ≡ 1 = one-out d.out d.shop.quantum s now in
    let inside : s.place < 256 = inside-out d.out d.board_pass d.shop.quantum s i.out now in
    let entries : local.entries ≡ d.local.entries ++ entry ∷ [] = ap (λ (q : Queue). q.entries) pushed in
    record {
      board_own = subst (λ (p : boards.PassView PostedView). boards.IsPassOf d.shop.board p) (sym put) i.board_own;
      pool_own = i.pool_own;
      inbox_own = i.inbox_own;
      policy = ap (λ (q : Queue). q.policy) pushed ∙ i.policy;
      room = ap (λ (q : Queue). q.room) pushed ∙ i.room;
      entries = subst (All (IsEntryOf 256)) (sym entries) (All-push (IsEntryOf 256) d.local.entries entry i.entries (record { inside = omega (arith, inside, here); few = omega (arith, few) }));
      few = omega (arith, i.few, one, ap length entries, length-append d.local.entries (entry ∷ []), ap many_out gone);
      stocked = i.stocked;
      kept = i.kept;
      memory = i.memory;
      counted = i.counted;
      out = subst (λ (o : Option HandedView). OutStands o pass) (sym gone) (ap (λ (p : boards.PassView PostedView). p.held) put);
    }

-- where the berth goes
record KeptBack (d : ShopDeskView) (pool_pass : pools.PassView) (stock : List View) : Type 0 where
  pool : KeepsPass d.shop.pool d.pool_pass pool_pass
  stocked : AreOf d.shop.pool.pages stock
  few : length stock ≤ 256

kept-back : (d : ShopDeskView) (pool_pass : pools.PassView) (stock : List View) (berth : View) → IsDeskOf d → IsGivenBack d.shop.pool d.pool_pass pool_pass d.stock stock berth → KeptBack d pool_pass stock
kept-back d pool_pass stock berth i is =
    let P : View → Type 0 = λ (b : View). b.pages ≡ d.shop.pool.pages in
    let as_before : stock ≡ d.stock → KeepsPass d.shop.pool d.pool_pass pool_pass → KeptBack d pool_pass stock = λ same pool. record { pool = pool; stocked = subst (AreOf d.shop.pool.pages) (sym same) i.stocked; few = omega (arith, ap length same, i.kept) } in
    ⊎_elim (λ dropped. as_before dropped.2 (kept-same d.shop.pool d.pool_pass pool_pass i.pool_own dropped.1))
    (λ given.
    ⊎_elim (λ home. as_before home.2 (kept-after d.shop.pool d.pool_pass pool_pass _ 0 1 i.pool_own home.1.3))
    (λ back.
    ⊎_elim (λ room. record {
      pool = kept-after d.shop.pool d.pool_pass pool_pass _ 0 0 i.pool_own room.1.1.3;
      stocked = subst (AreOf d.shop.pool.pages) (sym room.3) (All-push P d.stock berth i.stocked room.0);
      few = omega (arith, room.2, ap length room.3, length-append d.stock (berth ∷ []));
    })
    (λ full. as_before full.3 (kept-after d.shop.pool d.pool_pass pool_pass _ 0 0 i.pool_own full.1.1.3))
    back)
    given)
    is

pub desk-delivered : (d : ShopDeskView) → IsDeskOf d → (berth : View) (pass : boards.PassView PostedView) (place : ℕ) (w : Word) → pass ≡ putting d.board_pass place w
    → (pool_pass : pools.PassView) (stock : List View) (stock_room : ℕ) → (pool : PoolView) → pool ≡ d.shop.pool → IsGivenBack pool d.pool_pass pool_pass d.stock stock berth → stock_room ≡ d.stock_room → (out : Option HandedView) → out ≡ None
    → IsDeskOf (record d { board_pass = pass; pool_pass = pool_pass; stock = stock; stock_room = stock_room; out = out })
desk-delivered d i berth pass place w put pool_pass stock stock_room pool its is same out gone =
    let k = kept-back d pool_pass stock berth i (subst (λ (p : PoolView). IsGivenBack p d.pool_pass pool_pass d.stock stock berth) its is) in
    record {
      board_own = subst (λ (p : boards.PassView PostedView). boards.IsPassOf d.shop.board p) (sym put) i.board_own;
      pool_own = k.pool.0;
      inbox_own = i.inbox_own;
      policy = i.policy;
      room = i.room;
      entries = i.entries;
      few = omega (arith, i.few, ap many_out gone);
      stocked = k.stocked;
      kept = k.few;
      memory = omega (arith, i.memory, same);
      counted = i.counted;
      out = subst (λ (o : Option HandedView). OutStands o pass) (sym gone) (ap (λ (p : boards.PassView PostedView). p.held) put);
    }
