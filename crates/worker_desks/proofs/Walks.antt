-- Going through a queue and over places, one step more each.
use Rattle.std.proofs.Common.{◌≡◌, ◌≢◌, ℕ, ◌+◌, ◌<◌, ◌≤◌, List, [], ◌∷◌, ◌++◌, length, map, slice_get, Option, Some, None, refl, sym, ap, subst, ◌∙◌, arith, append_assoc, length-append}
use Rattle.std.proofs.lemmas.List.{append-nil}
use Rattle.std.proofs.lemmas.List.Elements.{All-nil, All-push}
use Rattle.std.specs.List.{All}
use Rattle.job_board.specs.Boarding.{BoardView, IsPassOf, note, noting}
use Rattle.job_board.specs.Claiming.{Sees}
use Rattle.job_board.specs.declared.holders.Note.{Note}
use Rattle.job_board.specs.declared.words.State.TheVariants as state
use Rattle.job_board.specs.declared.words.Word.{Word}
use Rattle.run_queues.specs.Serving.{Takes}
use Rattle.run_queues.specs.declared.entries.Entry.{Entry}
use Rattle.run_queues.specs.declared.policies.Policy.{Policy}
use Rattle.worker_desks.specs.declared.tasks.Task.{Task}
use Rattle.worker_desks.specs.Parts.{Pass, FindsOther, Serves, asked_by, Miss, noting_all, note_of, Drops, Look, IsPassedOver, notes_at, notes_from, PassesOver}

-- the same pass with notes behind its notes
pub noting-twice : (pass : Pass) (xs ys : List Note) → noting_all (noting_all pass xs) ys ≡ noting_all pass (xs ++ ys)
noting-twice pass xs ys = ap (λ (ns : List Note). record pass { notes = ns }) (append_assoc pass.notes xs ys)

pub noting-nothing : (pass : Pass) → noting_all pass [] ≡ pass
noting-nothing pass = ap (λ (ns : List Note). record pass { notes = ns }) (append-nil pass.notes)

-- a claim that found another word leaves the pass its board's, and free
pub finds-own : (b : BoardView Task) (between new : Pass) (place : ℕ) (seen : Word) → IsPassOf b between → FindsOther between new place seen → IsPassOf b new
finds-own b between new place seen own other = subst (IsPassOf b) (sym other.sees.noted) own

pub finds-free : (between new : Pass) (place : ℕ) (seen : Word) → between.held ≡ None → FindsOther between new place seen → new.held ≡ None
finds-free between new place seen free other = ap (λ (p : Pass). p.held) other.sees.noted ∙ free

-- The queue.

serves-more : (policy : Policy) (before : List Entry) (served : List Entry) (middle after : List Entry) (e : Entry) → Serves policy before served middle → Takes policy middle after e → Serves policy before (served ++ e ∷ []) after
serves-more policy before [] middle after e serves takes = (after, subst (λ (l : List Entry). Takes policy l after e) serves takes, refl)
serves-more policy before (x ∷ served) middle after e serves takes = (serves.0, serves.1, serves-more policy serves.0 served middle after e serves.2 takes)

map-push : {A B : Type 0} (f : A → B) (xs : List A) (x : A) → map f (xs ++ x ∷ []) ≡ map f xs ++ f x ∷ []
map-push f [] x = refl
map-push f (y ∷ xs) x = ap (λ l. f y ∷ l) (map-push f xs x)

pub drops-none : (policy : Policy) (entries : List Entry) (pass : Pass) → Drops policy entries entries pass pass
drops-none policy entries pass = record { misses = []; served = refl; others = All-nil (λ (m : Miss). m.found ≢ asked_by m.entry); noted = sym (noting-nothing pass) }

pub drops-more : (policy : Policy) (before middle after : List Entry) (old between new : Pass) (e : Entry) → Drops policy before middle old between → Takes policy middle after e → FindsOther between new e.place (asked_by e)
    → Drops policy before after old new
drops-more policy before middle after old between new e drops takes other =
    let miss : Miss = record { entry = e; found = other.found } in
    let misses : List Miss = drops.misses in
    let shown : noting between e.place other.found ≡ noting (noting_all old (map note_of misses)) e.place other.found = ap (λ (p : Pass). noting p e.place other.found) drops.noted in
    record {
      misses = misses ++ miss ∷ [];
      served = subst (λ (l : List Entry). Serves policy before l after) (sym (map-push (λ (m : Miss). m.entry) misses miss)) (serves-more policy before (map (λ (m : Miss). m.entry) misses) middle after e drops.served takes);
      others = All-push (λ (m : Miss). m.found ≢ asked_by m.entry) misses miss drops.others other.other;
      noted = other.sees.noted ∙ (shown ∙ (noting-twice old (map note_of misses) (note e.place other.found ∷ []) ∙ ap (λ (l : List Note). noting_all old l) (sym (map-push note_of misses miss))));
    }

-- The places.

notes-push : (at : ℕ) (looks : List Look) (look : Look) → notes_from at (looks ++ look ∷ []) ≡ notes_from at looks ++ (note (at + length looks) look.seen ∷ notes_at (at + length looks) look.found)
notes-push at [] look =
    let here : at ≡ at + 0 = omega arith in
    append-nil (note at look.seen ∷ notes_at at look.found) ∙ ap (λ (p : ℕ). note p look.seen ∷ notes_at p look.found) here
notes-push at (l ∷ looks) look =
    let further : at + 1 + length looks ≡ at + length (l ∷ looks) = omega arith in
    let first : List Note = note at l.seen ∷ notes_at at l.found in
    let last : ℕ → List Note = λ p. note p look.seen ∷ notes_at p look.found in
    ap (λ (ns : List Note). first ++ ns) (notes-push (at + 1) looks look ∙ ap (λ (p : ℕ). notes_from (at + 1) looks ++ last p) further) ∙ sym (append_assoc first (notes_from (at + 1) looks) (last (at + length (l ∷ looks))))

pub passes-none : (pass : Pass) → PassesOver 0 pass pass
passes-none pass = record { looks = []; count = refl; each = All-nil IsPassedOver; noted = sym (noting-nothing pass) }

passes-more : (place : ℕ) (old between : Pass) (look : Look) → PassesOver place old between → IsPassedOver look → PassesOver (place + 1) old (noting_all between (note place look.seen ∷ notes_at place look.found))
passes-more place old between look over passed =
    let seen : ℕ → List Note = λ p. note p look.seen ∷ notes_at p look.found in
    let here : place ≡ 0 + length over.looks = omega (arith, over.count) in
    record {
      looks = over.looks ++ look ∷ [];
      count = omega (arith, over.count, length-append over.looks (look ∷ []));
      each = All-push IsPassedOver over.looks look over.each passed;
      noted = ap (λ (p : Pass). noting_all p (seen place)) over.noted
          ∙ (noting-twice old (notes_from 0 over.looks) (seen place)
          ∙ ap (λ (l : List Note). noting_all old l) (ap (λ (p : ℕ). notes_from 0 over.looks ++ seen p) here ∙ sym (notes-push 0 over.looks look)));
    }

-- the place is not suspended
pub passes-seen : (place : ℕ) (old between : Pass) (seen : Word) → PassesOver place old between → seen.state ≢ state.Suspended → PassesOver (place + 1) old (noting between place seen)
passes-seen place old between seen over differs = passes-more place old between (record { seen = seen; found = None }) over differs

-- or its claim found another word
pub passes-missed : (place : ℕ) (old between new : Pass) (seen : Word) → PassesOver place old between → seen.state ≡ state.Suspended → FindsOther (noting between place seen) new place seen → PassesOver (place + 1) old new
passes-missed place old between new seen over suspended other =
    subst (PassesOver (place + 1) old) (sym (other.sees.noted ∙ noting-twice between (note place seen ∷ []) (note place other.found ∷ [])))
    (passes-more place old between (record { seen = seen; found = Some other.found }) over (suspended, other.other))
