-- Going over places, one more each.
use Rattle.std.proofs.Common.{◌≡◌, ◌≢◌, ⊎_elim, inl, inr, ℕ, ◌+◌, ◌<◌, ◌≤◌, List, [], ◌∷◌, ◌++◌, length, Option, Some, None, IfSome, IsSomeAnd, MatchOption, refl, sym, ap, subst, ◌∙◌, arith, append_assoc, length-append}
use Rattle.std.proofs.lemmas.List.{append-nil}
use Rattle.std.proofs.lemmas.List.Elements.{All-nil, All-push}
use Rattle.job_board.specs.Boarding.{BoardView, IsPassOf, note, noting, holding, putting}
use Rattle.job_board.specs.Words.{word}
use Rattle.job_board.specs.declared.holders.Hold.{Hold}
use Rattle.job_board.specs.declared.holders.Note.{Note}
use Rattle.job_board.specs.declared.words.State.{State}
use Rattle.job_board.specs.declared.words.State.TheVariants as state
use Rattle.job_board.specs.declared.words.Word.{Word}
use Rattle.posted_jobs.specs.Rounds.{Pass, noting_all, Idle, Berthless, Lost, TooWide, Look, IsPassedOver, notes_at, notes_from, PassesOver, Refuses, IsClaimed, Claims}
use Rattle.posted_jobs.specs.Posting.{PostedView}

pub noting_twice : (pass : Pass) (xs ys : List Note) → noting_all (noting_all pass xs) ys ≡ noting_all pass (xs ++ ys)
noting_twice pass xs ys = ap (λ (ns : List Note). record pass { notes = ns }) (append_assoc pass.notes xs ys)

pub noting_nothing : (pass : Pass) → noting_all pass [] ≡ pass
noting_nothing pass = ap (λ (ns : List Note). record pass { notes = ns }) (append-nil pass.notes)

notes_of : (place : ℕ) → Look → List Note
notes_of place look = note place look.seen ∷ notes_at place look.why

notes_push : (at : ℕ) (looks : List Look) (look : Look) → notes_from at (looks ++ look ∷ []) ≡ notes_from at looks ++ (note (at + length looks) look.seen ∷ notes_at (at + length looks) look.why)
notes_push at [] look =
    let here : at ≡ at + 0 = omega arith in
    append-nil (note at look.seen ∷ notes_at at look.why) ∙ ap (λ (p : ℕ). note p look.seen ∷ notes_at p look.why) here
notes_push at (l ∷ looks) look =
    let further : at + 1 + length looks ≡ at + length (l ∷ looks) = omega arith in
    let first : List Note = note at l.seen ∷ notes_at at l.why in
    let last : ℕ → List Note = λ p. note p look.seen ∷ notes_at p look.why in
    ap (λ (ns : List Note). first ++ ns) (notes_push (at + 1) looks look ∙ ap (λ (p : ℕ). notes_from (at + 1) looks ++ last p) further) ∙ sym (append_assoc first (notes_from (at + 1) looks) (last (at + length (l ∷ looks))))

pub passes_none : (berth : Option ℕ) (pass : Pass) → PassesOver berth 0 pass pass
passes_none berth pass = record { looks = []; count = refl; each = All-nil (IsPassedOver berth); noted = sym (noting_nothing pass) }

pub passes_more : (berth : Option ℕ) (place : ℕ) (old between new : Pass) → PassesOver berth place old between → Refuses berth place between new → PassesOver berth (place + 1) old new
passes_more berth place old between new over one =
    let look = one.look in
    let seen : ℕ → List Note = λ p. note p look.seen ∷ notes_at p look.why in
    let here : place ≡ 0 + length over.looks = omega (arith, over.count) in
    record {
      looks = over.looks ++ look ∷ [];
      count = omega (arith, over.count, length-append over.looks (look ∷ []));
      each = All-push (IsPassedOver berth) over.looks look over.each one.passed;
      noted = one.noted
          ∙ (ap (λ (p : Pass). noting_all p (seen place)) over.noted
          ∙ (noting_twice old (notes_from 0 over.looks) (seen place)
          ∙ ap (λ (l : List Note). noting_all old l) (ap (λ (p : ℕ). notes_from 0 over.looks ++ seen p) here ∙ sym (notes_push 0 over.looks look))));
    }

pub refuses_idle : (berth : Option ℕ) (place : ℕ) (old : Pass) (seen : Word) → seen.state ≢ state.Suspended → seen.state ≢ state.Waiting → Refuses berth place old (noting old place seen)
refuses_idle berth place old seen stopped waits = record { look = record { seen = seen; why = Idle }; passed = (stopped, waits); noted = refl }

pub refuses_berthless : (berth : Option ℕ) (place : ℕ) (old : Pass) (seen : Word) → seen.state ≡ state.Waiting → berth ≡ None → Refuses berth place old (noting old place seen)
refuses_berthless berth place old seen waits none = record { look = record { seen = seen; why = Berthless }; passed = (waits, none); noted = refl }

not_both : (s : State) → s ≡ state.Suspended → s ≡ state.Waiting → ⊥
not_both s a b = cc

pub refuses_stopped : (berth : Option ℕ) (room place : ℕ) (old new : Pass) (seen : Word) → seen.state ≡ state.Suspended → Claims room place seen (noting old place seen) new None → Refuses berth place old new
refuses_stopped berth room place old new seen stopped claims =
    ⊎_elim
    (λ lost. record { look = record { seen = seen; why = Lost lost.0 }; passed = (inl stopped, lost.1); noted = lost.2 ∙ noting_twice old (note place seen ∷ []) (note place lost.0 ∷ []) })
    (λ wide. absurd (not_both seen.state stopped wide.1))
    claims

some_less : (berth : Option ℕ) (room pages : ℕ) → berth ≡ Some room → room < pages → IfSome berth (λ (r : ℕ). r < pages)
some_less berth room pages is less = subst (λ (b : Option ℕ). IfSome b (λ (r : ℕ). r < pages)) (sym is) less

pub refuses_waiting : (berth : Option ℕ) (room place : ℕ) (old new : Pass) (seen : Word) → seen.state ≡ state.Waiting → berth ≡ Some room → Claims room place seen (noting old place seen) new None → Refuses berth place old new
refuses_waiting berth room place old new seen waits is claims =
    ⊎_elim
    (λ lost. record { look = record { seen = seen; why = Lost lost.0 }; passed = (inr waits, lost.1); noted = lost.2 ∙ noting_twice old (note place seen ∷ []) (note place lost.0 ∷ []) })
    (λ wide. record { look = record { seen = seen; why = TooWide wide.0 }; passed = (waits, some_less berth room wide.0 is wide.2); noted = wide.3 ∙ noting_twice old (note place seen ∷ []) (note place (word 0 state.Waiting) ∷ []) })
    claims

pub put_back : (old middle new : Pass) (place turns : ℕ) (seen : Word) → old.held ≡ None → middle ≡ holding old place seen → new ≡ putting middle place (word turns state.Waiting) → turns ≡ 0 → new ≡ noting old place (word 0 state.Waiting)
put_back old middle new place turns seen free holds put none =
    put ∙ (ap (λ (p : Pass). putting p place (word turns state.Waiting)) holds
    ∙ (ap (λ (n : ℕ). putting old place (word n state.Waiting)) none
    ∙ ap (λ (h : Option Hold). record old { held = h; notes = old.notes ++ note place (word 0 state.Waiting) ∷ [] }) (sym free)))

pub stopped_job : (berth : Option ℕ) (room place : ℕ) (old new : Pass) (seen : Word) (result : Option PostedView) → seen.state ≡ state.Suspended → Claims room place seen (noting old place seen) new result
    → MatchOption result (Refuses berth place old new) (λ (job : PostedView). IsClaimed berth place old new job)
stopped_job berth room place old new seen None stopped claims = refuses_stopped berth room place old new seen stopped claims
stopped_job berth room place old new seen (Some job) stopped claims = record { seen = seen; gets = claims.0; fits = inl stopped }

fitting : (berth : Option ℕ) (room pages : ℕ) → berth ≡ Some room → pages ≤ room → IsSomeAnd berth (λ (r : ℕ). pages ≤ r)
fitting berth room pages is fits = subst (λ (b : Option ℕ). IsSomeAnd b (λ (r : ℕ). pages ≤ r)) (sym is) fits

pub waiting_job : (berth : Option ℕ) (room place : ℕ) (old new : Pass) (seen : Word) (result : Option PostedView) → seen.state ≡ state.Waiting → berth ≡ Some room → Claims room place seen (noting old place seen) new result
    → MatchOption result (Refuses berth place old new) (λ (job : PostedView). IsClaimed berth place old new job)
waiting_job berth room place old new seen None waits is claims = refuses_waiting berth room place old new seen waits is claims
waiting_job berth room place old new seen (Some job) waits is claims =
    record {
      seen = seen;
      gets = claims.0;
      fits = ⊎_elim (λ stopped. absurd (not_both seen.state stopped waits)) (λ fits. inr (waits, fitting berth room job.request.program.pages is fits.1)) claims.1;
    }

pub refused_own : (b : BoardView PostedView) (berth : Option ℕ) (place : ℕ) (old new : Pass) → IsPassOf b old → Refuses berth place old new → IsPassOf b new
refused_own b berth place old new own one = subst (IsPassOf b) (sym one.noted) own

pub refused_free : (berth : Option ℕ) (place : ℕ) (old new : Pass) → old.held ≡ None → Refuses berth place old new → new.held ≡ None
refused_free berth place old new free one = ap (λ (p : Pass). p.held) one.noted ∙ free
