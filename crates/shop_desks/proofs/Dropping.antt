-- Going through a queue, one entry more each.
use Rattle.std.proofs.Common.{◌≡◌, ◌≢◌, ⊎_elim, ℕ, List, [], ◌∷◌, ◌++◌, map, None, refl, sym, ap, subst, ◌∙◌}
use Rattle.std.proofs.lemmas.List.Elements.{All-nil, All-push}
use Rattle.job_board.specs.Boarding as boards
use Rattle.job_board.specs.Boarding.{BoardView, note, noting}
use Rattle.job_board.specs.declared.holders.Note.{Note}
use Rattle.job_board.specs.declared.words.State.{State}
use Rattle.job_board.specs.declared.words.State.TheVariants as state
use Rattle.job_board.specs.declared.words.Word.{Word}
use Rattle.posted_jobs.proofs.Walks.{noting_twice, noting_nothing}
use Rattle.posted_jobs.specs.Posting.{PostedView}
use Rattle.posted_jobs.specs.Rounds.{Pass, noting_all, Claims}
use Rattle.run_queues.specs.Serving.{Takes}
use Rattle.run_queues.specs.declared.entries.Entry.{Entry}
use Rattle.run_queues.specs.declared.policies.Policy.{Policy}
use Rattle.worker_desks.specs.Parts.{Serves, asked_by, Miss, note_of}
use Rattle.shop_desks.specs.Nexts.{Drops}

-- a claim that gave no job leaves the pass its board's, and free
pub claims-rest : (b : BoardView PostedView) (room place : ℕ) (seen : Word) (old new : Pass) → boards.IsPassOf b old → old.held ≡ None → Claims room place seen old new None → boards.IsPassOf b new × (new.held ≡ None)
claims-rest b room place seen old new own free is =
    let rests : (w : Word) → new ≡ noting old place w → boards.IsPassOf b new × (new.held ≡ None) = λ w noted. (subst (boards.IsPassOf b) (sym noted) own, ap (λ (p : Pass). p.held) noted ∙ free) in
    ⊎_elim (λ lost. rests lost.0 lost.2) (λ wide. rests _ wide.3) is

serves-more : (policy : Policy) (before : List Entry) (served : List Entry) (middle after : List Entry) (e : Entry) → Serves policy before served middle → Takes policy middle after e → Serves policy before (served ++ e ∷ []) after
serves-more policy before [] middle after e serves takes = (after, subst (λ (l : List Entry). Takes policy l after e) serves takes, refl)
serves-more policy before (x ∷ served) middle after e serves takes = (serves.0, serves.1, serves-more policy serves.0 served middle after e serves.2 takes)

map-push : {A B : Type 0} (f : A → B) (xs : List A) (x : A) → map f (xs ++ x ∷ []) ≡ map f xs ++ f x ∷ []
map-push f [] x = refl
map-push f (y ∷ xs) x = ap (λ l. f y ∷ l) (map-push f xs x)

not-both : (s : State) → s ≡ state.Suspended → s ≡ state.Waiting → ⊥
not-both s a b = cc

-- the claim of an entry found another word, and no job was put back
other-word : (e : Entry) (between new : Pass) → Claims 4294967295 e.place (asked_by e) between new None → (found : Word) × (found ≢ asked_by e) × (new ≡ noting between e.place found)
other-word e between new claims = ⊎_elim (λ lost. lost) (λ wide. absurd (not-both state.Suspended refl wide.1)) claims

pub drops-more : (policy : Policy) (before middle after : List Entry) (old between new : Pass) (e : Entry) → Drops policy before middle old between → Takes policy middle after e → Claims 4294967295 e.place (asked_by e) between new None
    → Drops policy before after old new
drops-more policy before middle after old between new e drops takes claims =
    let other = other-word e between new claims in
    let miss : Miss = record { entry = e; found = other.0 } in
    let misses : List Miss = drops.misses in
    let shown : noting between e.place other.0 ≡ noting (noting_all old (map note_of misses)) e.place other.0 = ap (λ (p : Pass). noting p e.place other.0) drops.noted in
    record {
      misses = misses ++ miss ∷ [];
      served = subst (λ (l : List Entry). Serves policy before l after) (sym (map-push (λ (m : Miss). m.entry) misses miss)) (serves-more policy before (map (λ (m : Miss). m.entry) misses) middle after e drops.served takes);
      others = All-push (λ (m : Miss). m.found ≢ asked_by m.entry) misses miss drops.others other.1;
      noted = other.2 ∙ (shown ∙ (noting_twice old (map note_of misses) (note e.place other.0 ∷ []) ∙ ap (λ (l : List Note). noting_all old l) (sym (map-push note_of misses miss))));
    }

pub drops-none : (policy : Policy) (entries : List Entry) (pass : Pass) → Drops policy entries entries pass pass
drops-none policy entries pass = record { misses = []; served = refl; others = All-nil (λ (m : Miss). m.found ≢ asked_by m.entry); noted = sym (noting_nothing pass) }
