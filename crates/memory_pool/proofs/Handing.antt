-- Each step of a pool keeps its rule, and tells its pass what it should.
use Rattle.std.proofs.Common.{◌≡◌, ℕ, zero, suc, ◌+◌, ◌-◌, ◌<◌, ◌≤◌, ◌≢◌, ◌==◌, eqb, cond, Bool, true, false, List, [], ◌∷◌, ◌++◌, length, get_or, set, sym, refl, ap, ◌∙◌, subst, ⊎_elim, arith, length-set, eq-eqb, ne_eqb, Option, Some, None}
use Rattle.std.proofs.lemmas.List.{set-get_or}
use mathlib.Core.Option.{some, none}
use mathlib.Core.Option as logic
use lib.ListN.{get_elem?}
use prog.Atomic.{either}
use Rattle.atomic_table.specs.Table.{State, Me, Step, step, Act, keeps, takes, gives, Valid, carried_after, put_back, rest, stepped, Allows, Splits, Joins}
use Rattle.atomic_table.proofs.Lists.{at_set, at_snoc, set_here, set_else, exchanged}
use Rattle.view_totals.specs.Totals.{total}
use Rattle.view_totals.proofs.Sums.{total-set, total-push, term_le}
use Rattle.wasm_store.specs.View.{View, empty}
use Rattle.memory_pool.proofs.Keeping.{St, at, review, Change, changed}
use Rattle.memory_pool.specs.Moves.{try_of, tried, taking, giving_to, still, took, gave, ended, less_one, one_part, both_moved}
use Rattle.memory_pool.specs.Pooling.{found_of, mover, spent_mover, parts_in, taken_in, given_in, moved_at, moves, coming, coming_in, is_full, is_busy, SlotStands, Knows, Pooled}
use Rattle.memory_pool.specs.declared.movers.Found.{Found}
use Rattle.memory_pool.specs.declared.movers.Mover.{Mover}
use Rattle.memory_pool.specs.declared.movers.Moving.{Moving}
use Rattle.memory_pool.specs.declared.movers.Moving.TheVariants.{Nothing, Taking, Giving}

abbrev pub Seat : Type 0
Seat = Me (Option View) Mover

one_here : (i slot : ℕ) → i ≡ slot → ◌≡◌ {A = ℕ} (cond (eqb i slot) 1 0) 1
one_here i slot e = ap (λ b. cond b 1 0) (eq-eqb i slot e)

none_else : (i slot : ℕ) → i ≢ slot → ◌≡◌ {A = ℕ} (cond (eqb i slot) 1 0) 0
none_else i slot ne = ap (λ b. cond b 1 0) (ne_eqb i slot ne)

-- the slot that was taken last
pub out_now : (m : Seat) (v : Mover) (slot : ℕ) (x : Option View) (more : List (ℕ × Option View)) → m ≡ (v, (slot, x) ∷ more) → m.1 ≡ (slot, x) ∷ rest m.1
out_now m v slot x more e = ap (λ (y : Seat). y.1) e ∙ ap (λ (y : Seat). (slot, x) ∷ rest y.1) (sym e)

-- a word that is found, and stays, is noted
misses : (pages : ℕ) (s : St) → Pooled pages s → (id : ℕ) (m : Seat) → get_elem? s.views id ≡ some m.0 → 0 < m.0.parts → (giving : Bool) (slot : ℕ) (f : Found)
    → Pooled pages (stepped s slot (get_or s.words slot 0) id m.1 (tried m.0 giving slot f) keeps)
misses pages s r id m me live giving slot f =
    let v : Mover = m.0 in
    let v' : Mover = tried v giving slot f in
    let mine : Knows pages v' = record { same = (r.seats id v me).same; spent = λ none_left. absurd (omega arith) } in
    let kept = review pages s r (set s.views id v')
    (omega (arith, total-set parts_in s.views id v v' me, r.parts))
    (λ k. omega (arith, total-set (moves k) s.views id v v' me))
    (omega (arith, total-set given_in s.views id v v' me))
    (omega (arith, total-set taken_in s.views id v v' me))
    (omega (arith, total-set coming_in s.views id v v' me))
    (λ j u e. ⊎_elim (λ t. subst (Knows pages) t.1 mine) (λ t. r.seats j u t.1) (at_set s.views id j v' u e))
    in subst (λ (ws : List ℕ). Pooled pages (at ws s.homes (set s.views id v'))) (sym (set-get_or s.words slot 0)) kept

-- a slot begins to move
begins : (pages : ℕ) (s : St) → Pooled pages s → (id : ℕ) (v v' : Mover) → get_elem? s.views id ≡ some v → 0 < v.parts → v.moving ≡ Nothing → (slot : ℕ) → slot < length s.homes → is_busy (get_or s.words slot 0) ≡ 0
    → v'.parts ≡ v.parts → v'.pages ≡ v.pages → moves slot v' ≡ 1 → ((other : ℕ) → other ≢ slot → moves other v' ≡ 0)
    → v'.given + v.taken + is_full (get_or s.words slot 0) ≡ v.given + v'.taken + coming v'.moving
    → Pooled pages (at (set s.words slot 2) (set s.homes slot none) (set s.views id v'))
begins pages s r id v v' me live idle slot inside rests parts same here elsewhere stock =
    let quiet : (other : ℕ) → moves other v ≡ 0 = λ other. ap (moved_at other) idle in
    let p = r.slots slot inside in
    changed pages s id v v' slot 2 (set s.homes slot none) r record {
      me = me;
      inside = inside;
      known = omega arith;
      wide = length-set s.homes slot none;
      others = λ other ne. set_else s.homes slot other none ne;
      live = live;
      parts = parts;
      same = same;
      alone = p.movers ∙ (rests ∙ sym (quiet slot));
      elsewhere = λ other ne. elsewhere other ne ∙ sym (quiet other);
      full = λ e. absurd (omega arith);
      none = λ e. absurd (omega arith);
      mover = here;
      stock = omega (arith, stock, ap coming idle);
    }

pub takes_one : (pages slots id : ℕ) (m : Seat) (slot : ℕ) → 0 < m.0.parts → m.0.moving ≡ Nothing → slot < slots → Allows (Pooled pages) slots id m slot (λ n. either (n == 1) 2 n) (took (step slots slot 1 2 none) m)
takes_one pages slots id m slot live idle inside s r wide me small =
    let n : ℕ = get_or s.words slot 0 in
    let there : slot < length s.homes = omega (arith, wide) in
    exchanged n 1 2
    (λ (k : ℕ). (w : Mover) × (a : Act (Option View)) × Valid s.homes m.1 a × Pooled pages (stepped s slot k id m.1 w a) × took (step slots slot 1 2 none) m n (w, carried_after m.1 a))
    (λ e.
    let same : m.0.pages ≡ pages = (r.seats id m.0 me).same live in
    let home : get_elem? s.homes slot ≡ some (some (Some (empty m.0.pages))) = (r.slots slot there).full e ∙ ap (λ (k : ℕ). some (some (Some (empty k)))) (sym same) in (
      taking m.0 slot,
      takes slot (Some (empty m.0.pages)),
      home,
      begins pages s r id m.0 (taking m.0 slot) me live idle slot there (ap is_busy e) refl refl (one_here slot slot refl) (λ other ne. none_else slot other (λ h. ne (sym h))) (omega (arith, ap is_full e)),
      ((λ _. refl), (λ ne. absurd (ne e))),
    ))
    (λ ne. (tried m.0 false slot (found_of n), keeps, tt, misses pages s r id m me live false slot (found_of n), ((λ e. absurd (ne e)), (λ _. refl))))

pub gives_one : (pages slots id : ℕ) (m : Seat) (slot : ℕ) → 0 < m.0.parts → m.0.moving ≡ Nothing → slot < slots → Allows (Pooled pages) slots id m slot (λ n. either (n == 0) 2 n) (gave (step slots slot 0 2 none) m)
gives_one pages slots id m slot live idle inside s r wide me small =
    let n : ℕ = get_or s.words slot 0 in
    let there : slot < length s.homes = omega (arith, wide) in
    exchanged n 0 2
    (λ (k : ℕ). (w : Mover) × (a : Act (Option View)) × Valid s.homes m.1 a × Pooled pages (stepped s slot k id m.1 w a) × gave (step slots slot 0 2 none) m n (w, carried_after m.1 a))
    (λ e. (
      giving_to m.0 slot,
      takes slot None,
      (r.slots slot there).empty e,
      begins pages s r id m.0 (giving_to m.0 slot) me live idle slot there (ap is_busy e) refl refl (one_here slot slot refl) (λ other ne. none_else slot other (λ h. ne (sym h))) (omega (arith, ap is_full e)),
      ((λ _. refl), (λ ne. absurd (ne e))),
    ))
    (λ ne. (tried m.0 true slot (found_of n), keeps, tt, misses pages s r id m me live true slot (found_of n), ((λ e. absurd (ne e)), (λ _. refl))))

busy_word : (w : ℕ) → w ≤ 2 → 1 ≤ is_busy w → w ≡ 2
busy_word zero known busy = absurd (omega arith)
busy_word (suc zero) known busy = absurd (omega arith)
busy_word (suc (suc zero)) known busy = refl
busy_word (suc (suc (suc w))) known busy = absurd (omega arith)

idle_word : (w : ℕ) → w ≤ 1 → 0 ≡ is_busy w
idle_word zero low = refl
idle_word (suc zero) low = refl
idle_word (suc (suc w)) low = absurd (omega arith)

-- a slot no longer moves: it has what the word then tells
pub ends_one : (pages slots id : ℕ) (m : Seat) (v : Mover) (slot code : ℕ) (left : Option View) (more : List (ℕ × Option View)) → m ≡ (v, (slot, left) ∷ more) → 0 < v.parts → slot < slots → code ≤ 1
    → (code ≡ 1 → left ≡ Some (empty v.pages)) → (code ≡ 0 → left ≡ None) → moves slot v ≡ 1 → ((other : ℕ) → other ≢ slot → moves other v ≡ 0) → coming v.moving ≡ is_full code
    → Allows (Pooled pages) slots id m slot (λ _. code) (λ _. ended (step slots slot code 0 none) m code)
ends_one pages slots id m v slot code left more mine live inside low full none_left here elsewhere on_way s r wide me small =
    let me' : get_elem? s.views id ≡ some v = me ∙ ap (λ (x : Seat). some x.0) mine in
    let there : slot < length s.homes = omega (arith, wide) in
    let p = r.slots slot there in
    let same = (r.seats id v me').same live in
    let word : get_or s.words slot 0 ≡ 2 = busy_word (get_or s.words slot 0) p.known (omega (arith, term_le (moves slot) s.views id v me', p.movers, here)) in
    let ruled = changed pages s id v (still v) slot code (set s.homes slot (some left)) r record {
      me = me';
      inside = there;
      known = omega arith;
      wide = length-set s.homes slot (some left);
      others = λ other ne. set_else s.homes slot other (some left) ne;
      live = live;
      parts = refl;
      same = refl;
      alone = p.movers ∙ (ap is_busy word ∙ sym here);
      elsewhere = λ other ne. sym (elsewhere other ne);
      full = λ e. set_here s.homes slot (some left) there ∙ ap (λ (o : Option View). some (some o)) (full e ∙ ap (λ (k : ℕ). Some (empty k)) same);
      none = λ e. set_here s.homes slot (some left) there ∙ ap (λ (o : Option View). some (some o)) (none_left e);
      mover = idle_word code low;
      stock = omega (arith, ap is_full word, on_way);
    } in
    let after : Mover → Seat = λ x. (still x, rest m.1) in (
      still v,
      gives,
      tt,
      subst (λ (x : List (ℕ × Option View)). Pooled pages (at (set s.words slot code) (put_back s.homes x) (set s.views id (still v)))) (sym (ap (λ (x : Seat). x.1) mine)) ruled,
      ap (λ (x : Seat). after x.0) (sym mine),
    )

pub ends_taking : (pages slots id : ℕ) (m : Seat) (v : Mover) (slot : ℕ) (more : List (ℕ × Option View)) → m ≡ (v, (slot, None) ∷ more) → 0 < v.parts → v.moving ≡ Taking slot → slot < slots → Allows (Pooled pages) slots id m slot (λ _. 0) (λ _. ended (step slots slot 0 0 none) m 0)
ends_taking pages slots id m v slot more mine live moving inside =
    ends_one pages slots id m v slot 0 None more mine live inside (omega arith) (λ e. absurd (omega arith)) (λ _. refl) (ap (moved_at slot) moving ∙ one_here slot slot refl)
    (λ other ne. ap (moved_at other) moving ∙ none_else slot other (λ h. ne (sym h))) (ap coming moving)

pub ends_giving : (pages slots id : ℕ) (m : Seat) (v : Mover) (slot : ℕ) (berth : View) (more : List (ℕ × Option View)) → m ≡ (v, (slot, Some berth) ∷ more) → berth ≡ empty v.pages → 0 < v.parts → v.moving ≡ Giving slot → slot < slots
    → Allows (Pooled pages) slots id m slot (λ _. 1) (λ _. ended (step slots slot 1 0 none) m 1)
ends_giving pages slots id m v slot berth more mine clean live moving inside =
    ends_one pages slots id m v slot 1 (Some berth) more mine live inside (omega arith) (λ _. ap (λ (b : View). Some b) clean) (λ e. absurd (omega arith)) (ap (moved_at slot) moving ∙ one_here slot slot refl)
    (λ other ne. ap (moved_at other) moving ∙ none_else slot other (λ h. ne (sym h))) (ap coming moving)

pub cuts : (pages id : ℕ) (v : Mover) → 2 ≤ v.parts → Splits (Pooled pages) id v (less_one v) (one_part v)
cuts pages id v enough s r me =
    let k = r.seats id v me in
    let views : List Mover = set s.views id (less_one v) in
    let left : Knows pages (less_one v) = record { same = λ _. k.same (omega arith); spent = λ none_left. absurd (omega arith) } in
    let right : Knows pages (one_part v) = record { same = λ _. k.same (omega arith); spent = λ none_left. absurd (omega arith) } in
    review pages s r (views ++ one_part v ∷ [])
    (omega (arith, total-set parts_in s.views id v (less_one v) me, total-push parts_in views (one_part v), r.parts))
    (λ n. omega (arith, total-set (moves n) s.views id v (less_one v) me, total-push (moves n) views (one_part v)))
    (omega (arith, total-set given_in s.views id v (less_one v) me, total-push given_in views (one_part v)))
    (omega (arith, total-set taken_in s.views id v (less_one v) me, total-push taken_in views (one_part v)))
    (omega (arith, total-set coming_in s.views id v (less_one v) me, total-push coming_in views (one_part v)))
    (λ j u e.
    ⊎_elim (λ old. ⊎_elim (λ t. subst (Knows pages) t.1 left) (λ t. r.seats j u t.1) (at_set s.views id j (less_one v) u old)) (λ new. subst (Knows pages) new right) (at_snoc views (one_part v) u j e))

pub unites : (pages id : ℕ) (v : Mover) (other : ℕ) (u : Mover) → 0 < v.parts → u.moving ≡ Nothing → Joins (Pooled pages) id v other u (both_moved v u) spent_mover
unites pages id v other u live idle s r me apart there =
    let both : Mover = both_moved v u in
    let k = r.seats id v me in
    let views : List Mover = set s.views id both in
    let mine : Knows pages both = record { same = λ _. k.same live; spent = λ none_left. absurd (omega arith) } in
    let gone : Knows pages spent_mover = record { same = λ some_part. absurd (omega arith); spent = λ _. (refl, refl, refl, refl) } in
    let quiet : (n : ℕ) → moves n u ≡ 0 = λ n. ap (moved_at n) idle in
    review pages s r (set views other spent_mover)
    (omega (arith, total-set parts_in s.views id v both me, total-set parts_in views other u spent_mover there, r.parts))
    (λ n. omega (arith, total-set (moves n) s.views id v both me, total-set (moves n) views other u spent_mover there, quiet n))
    (omega (arith, total-set given_in s.views id v both me, total-set given_in views other u spent_mover there))
    (omega (arith, total-set taken_in s.views id v both me, total-set taken_in views other u spent_mover there))
    (omega (arith, total-set coming_in s.views id v both me, total-set coming_in views other u spent_mover there, ap coming idle))
    (λ j x e.
    ⊎_elim (λ t. subst (Knows pages) t.1 gone) (λ t. ⊎_elim (λ q. subst (Knows pages) q.1 mine) (λ q. r.seats j x q.1) (at_set s.views id j both x t.1)) (at_set views other j spent_mover x e))
