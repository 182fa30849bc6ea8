-- What a search for a job keeps, and what it finds.
use Rattle.std.proofs.Common.{◌≡◌, ◌⊎◌, ⊎_elim, inl, inr, ℕ, ◌<◌, ◌≤◌, List, [], length, map, slice_get, Option, Some, None, IsSomeAnd, refl, sym, ap, subst, ◌∙◌, arith}
use Rattle.std.proofs.lemmas.List.Elements.{All-nil, All-push}
use Rattle.std.specs.List.{All}
use Rattle.job_board.specs.Boarding as boards
use Rattle.job_board.specs.Boarding.{BoardView, noting}
use Rattle.job_board.specs.declared.holders.Note.{Note}
use Rattle.job_board.specs.declared.words.State.TheVariants as state
use Rattle.job_board.specs.declared.words.Word.{Word}
use Rattle.memory_pool.specs.Passing as pools
use Rattle.memory_pool.specs.Passing.{PoolView, IsTaken, after}
use Rattle.place_lists.specs.Inboxes as inboxes
use Rattle.posted_jobs.specs.Posting.{PostedView}
use Rattle.posted_jobs.specs.Rounds.{Pass, GetsJob, noting_all, notes_from}
use Rattle.run_queues.specs.declared.entries.Entry.{Entry}
use Rattle.wasm_store.specs.View.{View}
use Rattle.worker_desks.proofs.Entries.{all-left, all-behind, one-less, no-more}
use Rattle.worker_desks.proofs.Finding.{AreOf, at-place, kept-after, kept-same}
use Rattle.worker_desks.specs.Parts.{unbegun, asked_by, Miss, note_of}
use Rattle.worker_desks.specs.Sharing.{IsEntryOf}
use Rattle.shop_desks.proofs.Dropping.{claims-rest}
use Rattle.shop_desks.specs.Nexts.{Standing, HasLast, IsStocked, StocksUp, IsBegun, Begins, Resumes, with_entries, GoesRound, OrElse, Searches, IsSearch}
use Rattle.shop_desks.specs.Shops.{ShopView}

-- what holds of the passes, the queue and the stock while no place is held
pub record Rests (most : ℕ) (shop : ShopView) (s : Standing) : Type 0 where
  pub board_own : boards.IsPassOf shop.board s.board_pass
  pub free : s.board_pass.held ≡ None
  pub pool_own : pools.IsPassOf shop.pool s.pool_pass
  pub inbox_own : inboxes.IsPassOf shop.inbox s.inbox_pass
  pub policy : s.local.policy ≡ shop.policy
  pub room : s.local.room ≡ 256
  pub entries : All (IsEntryOf 256) s.local.entries
  pub few : length s.local.entries ≤ most
  pub stocked : AreOf shop.pool.pages s.stock
  pub kept : length s.stock ≤ 256

-- a claim was made from such a standing, and got a job that was stopped, or that the last berth in stock has room for
pub record Finds (shop : ShopView) (new : Standing) (job : PostedView) : Type 0 where
  pub from : Standing
  pub rests : Rests 255 shop from
  pub place : ℕ
  pub inside : place < 256
  pub seen : Word
  pub gets : GetsJob from.board_pass new.board_pass place seen job
  pub fits : (seen.state ≡ state.Suspended) ⊎ ((seen.state ≡ state.Waiting) × (pages : ℕ) × HasLast new.stock pages × (job.request.program.pages ≤ pages))
  pub is : new ≡ record from { board_pass = new.board_pass }

abbrev pub AtHand : Option ℕ → List View → Type 0
AtHand None stock = stock ≡ []
AtHand (Some pages) stock = HasLast stock pages

abbrev pub Ready : (berth : Option ℕ) → ShopView → Standing → Type 0
Ready berth shop s = Rests 255 shop s × AtHand berth s.stock

abbrev pub Keeps : (P Q : Standing → Type 0) → ((old new : Standing) → Option PostedView → Type 0) → Type 0
Keeps P Q R = (old new : Standing) → P old → R old new None → Q new

abbrev pub Reaches : (P : Standing → Type 0) → ShopView → ((old new : Standing) → Option PostedView → Type 0) → Type 0
Reaches P shop R = (old new : Standing) (job : PostedView) → P old → R old new (Some job) → Finds shop new job

pub or-else-keeps : (P Q S : Standing → Type 0) (first second : (old new : Standing) → Option PostedView → Type 0) → Keeps P Q first → Keeps Q S second → Keeps P S (OrElse first second)
or-else-keeps P Q S first second one two old new p is = two is.0 new (one old is.0 p is.1) is.2

pub or-else-reaches : (P Q : Standing → Type 0) (shop : ShopView) (first second : (old new : Standing) → Option PostedView → Type 0) → Keeps P Q first → Reaches P shop first → Reaches Q shop second → Reaches P shop (OrElse first second)
or-else-reaches P Q shop first second keeps one two old new job p is =
    ⊎_elim (λ found. one old new job p found) (λ none. two none.0 new job (keeps old none.0 p none.1) none.2) is

-- Notes alone.

noted-rest : (b : BoardView PostedView) (old new : Pass) (notes : List Note) → boards.IsPassOf b old → old.held ≡ None → new ≡ noting_all old notes → boards.IsPassOf b new × (new.held ≡ None)
noted-rest b old new notes own free noted = (subst (boards.IsPassOf b) (sym noted) own, ap (λ (p : Pass). p.held) noted ∙ free)

-- A request that begins.

with-passes : (most : ℕ) (shop : ShopView) (s : Standing) (pass : Pass) (inbox : inboxes.PassView) → Rests most shop s → boards.IsPassOf shop.board pass × (pass.held ≡ None) → inboxes.IsPassOf shop.inbox inbox
    → Rests most shop (record s { board_pass = pass; inbox_pass = inbox })
with-passes most shop s pass inbox r own inbox_own = record {
  board_own = own.0;
  free = own.1;
  pool_own = r.pool_own;
  inbox_own = inbox_own;
  policy = r.policy;
  room = r.room;
  entries = r.entries;
  few = r.few;
  stocked = r.stocked;
  kept = r.kept;
}

begun-rest : (shop : ShopView) (berth : Option ℕ) (old new : Pass) (inbox inbox' : inboxes.PassView) → boards.IsPassOf shop.board old → old.held ≡ None → inboxes.IsPassOf shop.inbox inbox → IsBegun berth inbox inbox' old new None
    → (boards.IsPassOf shop.board new × (new.held ≡ None)) × inboxes.IsPassOf shop.inbox inbox'
begun-rest shop None old new inbox inbox' own free inbox_own is =
    ((subst (boards.IsPassOf shop.board) (sym is.1) own, ap (λ (p : Pass). p.held) is.1 ∙ free), subst (inboxes.IsPassOf shop.inbox) (sym is.0) inbox_own)
begun-rest shop (Some room) old new inbox inbox' own free inbox_own is =
    ⊎_elim
    (λ none. ((subst (boards.IsPassOf shop.board) (sym none.1) own, ap (λ (p : Pass). p.held) none.1 ∙ free), subst (inboxes.IsPassOf shop.inbox) (sym none.0) inbox_own))
    (λ lost. (claims-rest shop.board room lost.0 unbegun old new own free lost.3, subst (inboxes.IsPassOf shop.inbox) (sym lost.2) inbox_own))
    is

begins-keeps : (shop : ShopView) (berth : Option ℕ) → Keeps (Ready berth shop) (Ready berth shop) (Begins berth)
begins-keeps shop berth old new p is =
    let rest = begun-rest shop berth old.board_pass new.board_pass old.inbox_pass new.inbox_pass p.0.board_own p.0.free p.0.inbox_own is.0 in
    subst (Ready berth shop) (sym is.1) (with-passes 255 shop old new.board_pass new.inbox_pass p.0 rest.0 rest.1, p.1)

begun-finds : (shop : ShopView) (berth : Option ℕ) (old new : Standing) (job : PostedView) → Rests 255 shop old → AtHand berth old.stock → IsBegun berth old.inbox_pass new.inbox_pass old.board_pass new.board_pass (Some job)
    → new ≡ record old { board_pass = new.board_pass; inbox_pass = new.inbox_pass } → Finds shop new job
begun-finds shop None old new job r hand is same = absurd is
begun-finds shop (Some room) old new job r hand is same = record {
  from = record old { inbox_pass = new.inbox_pass };
  rests = with-passes 255 shop old old.board_pass new.inbox_pass r (r.board_own, r.free) (subst (inboxes.IsPassOf shop.inbox) (sym is.2) r.inbox_own);
  place = is.0;
  inside = is.1;
  seen = unbegun;
  gets = is.3.0;
  fits = ⊎_elim (λ stopped. inl stopped) (λ fits. inr (fits.0, room, subst (λ (bs : List View). HasLast bs room) (sym (ap (λ (s : Standing). s.stock) same)) hand, fits.1)) is.3.1;
  is = same;
}

begins-reaches : (shop : ShopView) (berth : Option ℕ) → Reaches (Ready berth shop) shop (Begins berth)
begins-reaches shop berth old new job p is = begun-finds shop berth old new job p.0 p.1 is.0 is.1

-- The desk's own queue.

at-entry : (entries : List Entry) (at : ℕ) (entry : Entry) → All (IsEntryOf 256) entries → slice_get entries at ≡ Some entry → IsEntryOf 256 entry
at-entry entries at entry each is = at-place (IsEntryOf 256) entries at entry each is

with-queue : (most : ℕ) (shop : ShopView) (s : Standing) (pass : Pass) (entries : List Entry) → Rests 256 shop s → boards.IsPassOf shop.board pass × (pass.held ≡ None) → All (IsEntryOf 256) entries → length entries ≤ most
    → Rests most shop (record s { board_pass = pass; local = with_entries s.local entries })
with-queue most shop s pass entries r own each few = record {
  board_own = own.0;
  free = own.1;
  pool_own = r.pool_own;
  inbox_own = r.inbox_own;
  policy = r.policy;
  room = r.room;
  entries = each;
  few = few;
  stocked = r.stocked;
  kept = r.kept;
}

resumed-rests : (shop : ShopView) (old new : Standing) → Rests 256 shop old → Resumes old new None → Rests 255 shop new
resumed-rests shop old new r is =
    let own = noted-rest shop.board old.board_pass new.board_pass (map note_of is.0.0.misses) r.board_own r.free is.0.0.noted in
    let each : All (IsEntryOf 256) new.local.entries = subst (All (IsEntryOf 256)) (sym is.0.1) (All-nil (IsEntryOf 256)) in
    subst (Rests 255 shop) (sym is.1) (with-queue 255 shop old new.board_pass new.local.entries r own each (omega (arith, ap length is.0.1)))

resumed-finds : (shop : ShopView) (old new : Standing) (job : PostedView) → Rests 256 shop old → Resumes old new (Some job) → Finds shop new job
resumed-finds shop old new job r is =
    let middle = is.0.0 in
    let between = is.0.1 in
    let drops = is.0.2 in
    let entry = is.0.3.0 in
    let takes = is.0.3.1 in
    let claims = is.0.3.2 in
    let served : List Entry = map (λ (m : Miss). m.entry) drops.misses in
    let own = noted-rest shop.board old.board_pass between (map note_of drops.misses) r.board_own r.free drops.noted in
    let left : All (IsEntryOf 256) middle = all-behind (IsEntryOf 256) old.local.policy old.local.entries served middle drops.served r.entries in
    let each : All (IsEntryOf 256) new.local.entries = all-left (IsEntryOf 256) old.local.policy middle new.local.entries entry takes left in
    let less : length new.local.entries ≤ 255 = omega (arith, r.few, no-more old.local.policy old.local.entries served middle drops.served, one-less old.local.policy middle new.local.entries entry takes) in
    record {
      from = record old { board_pass = between; local = with_entries old.local new.local.entries };
      rests = with-queue 255 shop old between new.local.entries r own each less;
      place = entry.place;
      inside = (at-entry middle takes.at entry left takes.is).inside;
      seen = asked_by entry;
      gets = claims.0;
      fits = inl refl;
      is = is.1;
    }

-- All places.

with-pass : (most : ℕ) (shop : ShopView) (s : Standing) (pass : Pass) → Rests most shop s → boards.IsPassOf shop.board pass × (pass.held ≡ None) → Rests most shop (record s { board_pass = pass })
with-pass most shop s pass r own = with-passes most shop s pass s.inbox_pass r own r.inbox_own

round-keeps : (shop : ShopView) (berth : Option ℕ) → Keeps (Ready berth shop) (Rests 255 shop) (GoesRound berth)
round-keeps shop berth old new p is =
    let own = noted-rest shop.board old.board_pass new.board_pass (notes_from 0 is.0.looks) p.0.board_own p.0.free is.0.noted in
    subst (Rests 255 shop) (sym is.1) (with-pass 255 shop old new.board_pass p.0 own)

fits-last : (berth : Option ℕ) (pages : ℕ) (stock : List View) → AtHand berth stock → IsSomeAnd berth (λ (room : ℕ). pages ≤ room) → (room : ℕ) × HasLast stock room × (pages ≤ room)
fits-last None pages stock hand fits = absurd fits
fits-last (Some room) pages stock hand fits = (room, hand, fits)

round-reaches : (shop : ShopView) (berth : Option ℕ) → Reaches (Ready berth shop) shop (GoesRound berth)
round-reaches shop berth old new job p is =
    let place = is.0.0 in
    let between = is.0.2 in
    let over = is.0.3 in
    let claimed = is.0.4 in
    let own = noted-rest shop.board old.board_pass between (notes_from 0 over.looks) p.0.board_own p.0.free over.noted in
    let hand : AtHand berth new.stock = subst (AtHand berth) (sym (ap (λ (s : Standing). s.stock) is.1)) p.1 in
    record {
      from = record old { board_pass = noting between place claimed.seen };
      rests = with-pass 255 shop old (noting between place claimed.seen) p.0 own;
      place = place;
      inside = is.0.1;
      seen = claimed.seen;
      gets = claimed.gets;
      fits = ⊎_elim (λ stopped. inl stopped) (λ waits. let last = fits-last berth job.request.program.pages new.stock hand waits.1 in inr (waits.0, last.0, last.1, last.2)) claimed.fits;
      is = is.1;
    }

-- The berth at hand.

with-stock : (most : ℕ) (shop : ShopView) (s : Standing) (pass : pools.PassView) (stock : List View) → Rests most shop s → pools.IsPassOf shop.pool pass → AreOf shop.pool.pages stock → length stock ≤ 256
    → Rests most shop (record s { pool_pass = pass; stock = stock })
with-stock most shop s pass stock r own each few = record {
  board_own = r.board_own;
  free = r.free;
  pool_own = own;
  inbox_own = r.inbox_own;
  policy = r.policy;
  room = r.room;
  entries = r.entries;
  few = r.few;
  stocked = each;
  kept = few;
}

record Stocked (p : PoolView) (new : pools.PassView) (berth : Option ℕ) (stock : List View) : Type 0 where
  own : pools.IsPassOf p new
  stocked : AreOf p.pages stock
  kept : length stock ≤ 256
  hand : AtHand berth stock

stocked-up : (p : PoolView) (berth : Option ℕ) (old new : pools.PassView) (stock stock' : List View) → pools.IsPassOf p old → AreOf p.pages stock → length stock ≤ 256 → IsStocked p old new stock stock' berth → Stocked p new berth stock'
stocked-up p None old new stock stock' own each few is = record {
  own = (kept-after p old new is.2.0 0 0 own is.2.3).0;
  stocked = subst (AreOf p.pages) (sym is.1) (All-nil (λ (b : View). b.pages ≡ p.pages));
  kept = omega (arith, ap length is.1);
  hand = is.1;
}
stocked-up p (Some pages) old new stock stock' own each few is =
    let P : View → Type 0 = λ (b : View). b.pages ≡ p.pages in
    ⊎_elim
    (λ had. record { own = (kept-same p old new own had.1).0; stocked = subst (AreOf p.pages) (sym had.0) each; kept = omega (arith, few, ap length had.0); hand = is.0 })
    (λ taken. record {
      own = (kept-after p old new _ 1 0 own taken.3.1.3).0;
      stocked = subst (AreOf p.pages) (sym taken.2) (All-push P [] taken.0 (All-nil P) (ap (λ (b : View). b.pages) taken.3.0));
      kept = omega (arith, ap length taken.2);
      hand = is.0;
    })
    is.1

stocks-up : (shop : ShopView) (berth : Option ℕ) (old new : Standing) → Rests 255 shop old → StocksUp shop.pool berth old new → Ready berth shop new
stocks-up shop berth old new r is =
    let k = stocked-up shop.pool berth old.pool_pass new.pool_pass old.stock new.stock r.pool_own r.stocked r.kept is.0 in
    subst (Ready berth shop) (sym is.1) (with-stock 255 shop old new.pool_pass new.stock r k.own k.stocked k.kept, k.hand)

-- The whole search.

weaker : (shop : ShopView) (s : Standing) → Rests 255 shop s → Rests 256 shop s
weaker shop s r = record { board_own = r.board_own; free = r.free; pool_own = r.pool_own; inbox_own = r.inbox_own; policy = r.policy; room = r.room; entries = r.entries; few = omega (arith, r.few); stocked = r.stocked; kept = r.kept }

fewer : (shop : ShopView) (s : Standing) → Rests 256 shop s → length s.local.entries < 256 → Rests 255 shop s
fewer shop s r less = record { board_own = r.board_own; free = r.free; pool_own = r.pool_own; inbox_own = r.inbox_own; policy = r.policy; room = r.room; entries = r.entries; few = omega (arith, less); stocked = r.stocked; kept = r.kept }

resumes-ready : (shop : ShopView) (berth : Option ℕ) → Keeps (Ready berth shop) (Ready berth shop) Resumes
resumes-ready shop berth old new p is = (resumed-rests shop old new (weaker shop old p.0) is, subst (AtHand berth) (sym (ap (λ (s : Standing). s.stock) is.1)) p.1)

resumes-reaches : (shop : ShopView) (berth : Option ℕ) → Reaches (Ready berth shop) shop Resumes
resumes-reaches shop berth old new job p is = resumed-finds shop old new job (weaker shop old p.0) is

searches-keeps : (shop : ShopView) → Keeps (Rests 255 shop) (Rests 255 shop) (Searches shop.pool)
searches-keeps shop old new r is =
    let b = is.0 in
    let P = Ready b shop in
    or-else-keeps P P (Rests 255 shop) (Begins b) (OrElse Resumes (GoesRound b)) (begins-keeps shop b) (or-else-keeps P P (Rests 255 shop) Resumes (GoesRound b) (resumes-ready shop b) (round-keeps shop b)) is.1 new (stocks-up shop b old is.1 r is.2) is.3

searches-reaches : (shop : ShopView) → Reaches (Rests 255 shop) shop (Searches shop.pool)
searches-reaches shop old new job r is =
    let b = is.0 in
    let P = Ready b shop in
    or-else-reaches P P shop (Begins b) (OrElse Resumes (GoesRound b)) (begins-keeps shop b) (begins-reaches shop b) (or-else-reaches P P shop Resumes (GoesRound b) (resumes-ready shop b) (resumes-reaches shop b) (round-reaches shop b)) is.1 new job (stocks-up shop b old is.1 r is.2)
    is.3

pub search-keeps : (shop : ShopView) → Keeps (Rests 256 shop) (Rests 255 shop) (IsSearch shop.pool)
search-keeps shop old new r is =
    ⊎_elim (λ few. searches-keeps shop old new (fewer shop old r few.0) few.1)
    (λ full. or-else-keeps (Rests 256 shop) (Rests 255 shop) (Rests 255 shop) Resumes (Searches shop.pool) (resumed-rests shop) (searches-keeps shop) old new r full.1) is

pub search-reaches : (shop : ShopView) → Reaches (Rests 256 shop) shop (IsSearch shop.pool)
search-reaches shop old new job r is =
    ⊎_elim (λ few. searches-reaches shop old new job (fewer shop old r few.0) few.1)
    (λ full. or-else-reaches (Rests 256 shop) (Rests 255 shop) shop Resumes (Searches shop.pool) (resumed-rests shop) (resumed-finds shop) (searches-reaches shop) old new job r full.1) is
