-- Each step on a meter's cell keeps the rule.
use Rattle.std.proofs.Common.{◌≡◌, ◌⊎◌, ⊎_elim, inl, inr, ℕ, zero, suc, ◌<◌, ◌≢◌, Bool, true, false, List, [], ◌∷◌, ◌++◌, ◌&&◌, nat_eq, if◌then◌else◌, length, set, refl, sym, ap, ◌∙◌, subst, arith, length-set, length-append, append_assoc, Option, Some, None, IfSome}
use Rattle.std.proofs.lemmas.List.{append-nil}
use Rattle.std.proofs.lemmas.Bool.Decides.{nat_tests}
use mathlib.Core.Option.{some, some-injective, some-ne-none}
use lib.ListN.{get_elem?}
use Rattle.atomic_table.proofs.Lists.{at_set, set_again}
use Rattle.crossbeam_utils.specs.Register.{Turns, Forks}
use Rattle.admission.specs.Bucket.{Bucket}
use Rattle.admission.specs.Metering.{ask, behind}
use Rattle.admission.specs.declared.meters.Admission.{Admission}
use Rattle.tenant_meters.proofs.Histories.{behind_push, legal_push, own_push, other_push, goes_push, goes_twice}
use Rattle.tenant_meters.specs.Charging.{bucket_in, terms_in}
use Rattle.tenant_meters.specs.Histories.{call, empty_bucket, calls_by, GoesOn}
use Rattle.tenant_meters.specs.Ruled.{caller, newcomer, Fits, Kept, Ruled}
use Rattle.tenant_meters.specs.Steps.{SeesMore, MakesCall, opened, looked, asked, told}
use Rattle.tenant_meters.specs.declared.charges.Charge.{Charge}
use Rattle.tenant_meters.specs.declared.callers.Caller.{Caller}
use Rattle.tenant_meters.specs.declared.callers.Call.{Call}
use Rattle.tenant_meters.specs.declared.callers.Terms.{Terms}

at_one : (a b : Caller) (i : ℕ) → get_elem? (a ∷ []) i ≡ some b → (i ≡ 0) × (a ≡ b)
at_one a b zero e = (refl, some-injective a b e)
at_one a b (suc i) e = absurd (some-ne-none b (sym e))

at_push : (l : List Caller) (a b : Caller) (i : ℕ) → get_elem? (l ++ a ∷ []) i ≡ some b → (get_elem? l i ≡ some b) ⊎ ((i ≡ length l) × (a ≡ b))
at_push [] a b zero e = inr (refl, some-injective a b e)
at_push [] a b (suc i) e = absurd (some-ne-none b (sym e))
at_push (x ∷ xs) a b zero e = inl e
at_push (x ∷ xs) a b (suc i) e = ⊎_elim (λ h. inl h) (λ t. inr (ap suc t.0, t.1)) (at_push xs a b i e)

inside : (l : List Caller) (i : ℕ) (v : Caller) → get_elem? l i ≡ some v → i < length l
inside [] i v e = absurd (some-ne-none v (sym e))
inside (x ∷ xs) zero v e = omega arith
inside (x ∷ xs) (suc i) v e = omega (arith, inside xs i v e)

no_terms : (given : Terms) → None ≡ Some given → ⊥
no_terms given e = cc

one_terms : (a b : Terms) → Some a ≡ Some b → a ≡ b
one_terms a b e = cc

-- to a pass that knows the terms, they are laid down
kept_of : (given : Terms) (x : Charge) (views : List Caller) (pass : ℕ) (v : Caller) → Ruled x views → get_elem? views pass ≡ some v → v.terms ≡ Some given → Kept given x views
kept_of given x views pass v rule at g =
    ⊎_elim
    (λ alone.
    let same = (at_one newcomer v pass (subst (λ (l : List Caller). get_elem? l pass ≡ some v) alone at)).1 in
    absurd (no_terms given (ap (λ (c : Caller). c.terms) same ∙ g)))
    (λ k.
    let same : k.0 ≡ given = one_terms k.0 given (sym (k.1.seats pass v at).same ∙ g) in
    subst (λ (t : Terms). Kept t x views) same k.1)
    rule

-- one pass has seen more, or has made a call
reseated : (given : Terms) (log : List Call) (views : List Caller) (pass : ℕ) (w : Caller)
    → ((by : ℕ) (u : Caller) → by ≢ pass → get_elem? views by ≡ some u → Fits given log by u) → Fits given log pass w
    → (by : ℕ) (u : Caller) → get_elem? (set views pass w) by ≡ some u → Fits given log by u
reseated given log views pass w others new by u e =
    ⊎_elim (λ t. subst (λ (n : ℕ). Fits given log n u) (sym t.0) (subst (Fits given log pass) t.1 new)) (λ t. others by u t.0 t.1) (at_set views pass by w u e)

seen_fits : (given : Terms) (log : List Call) (pass : ℕ) (v : Caller) → Fits given log pass v → Fits given log pass (caller v.terms log v.mine)
seen_fits given log pass v f = record { same = f.same; seen = ([], sym (append-nil log)); mine = f.mine }

looked_at : (given : Terms) (x : Charge) (views : List Caller) (pass : ℕ) (v : Caller) → get_elem? views pass ≡ some v → v.terms ≡ Some given → Kept given x views
    → (w : Caller) × Ruled x (set views pass w) × looked v x x w
looked_at given x views pass v at g k =
    let f = k.seats pass v at in
    let w = caller v.terms k.log v.mine in
    let far = length-set views pass w in (
      w,
      inr (
        given,
        record {
          log = k.log;
          legal = k.legal;
          state = k.state;
          seats = reseated given k.log views pass w (λ by u apart e. k.seats by u e) (seen_fits given k.log pass v f);
          others = λ by long. k.others by (omega (arith, far, long));
        },
      ),
      (refl, subst (λ (t : Option Terms). IfSome t (λ (t' : Terms). SeesMore t' v.seen v.mine k.log v.mine)) (sym g) (record { onward = f.seen; same = refl; legal = k.legal; by = pass; own = f.mine })),
    )

pub looks : (pass : ℕ) (v : Caller) (given : Terms) → v.terms ≡ Some given → Turns Ruled pass v (λ x. x) looked
looks pass v given g x views rule at = looked_at given x views pass v at g (kept_of given x views pass v rule at g)

fits_longer : (given : Terms) (log : List Call) (pass moment estimate : ℕ) (answer : Admission) (by : ℕ) (v : Caller) → by ≢ pass → Fits given log by v → Fits given (log ++ call pass moment estimate answer ∷ []) by v
fits_longer given log pass moment estimate answer by v apart f =
    record {
      same = f.same;
      seen = goes_push v.seen log (call pass moment estimate answer) f.seen;
      mine = other_push log pass by moment estimate answer apart ∙ f.mine;
    }

-- a call is made: the bucket of the cell is the one behind it
called : (given : Terms) (x y : Charge) (views : List Caller) (pass : ℕ) (v : Caller) (moment estimate : ℕ) → get_elem? views pass ≡ some v → v.terms ≡ Some given → Kept given x views → (ask (bucket_in x) moment estimate).1 ≡ bucket_in y
    → (w : Caller) × Ruled y (set views pass w) × (w.terms ≡ v.terms) × MakesCall given v.seen v.mine w.seen w.mine moment estimate (ask (bucket_in x) moment estimate).0
called given x y views pass v moment estimate at g k next =
    let f = k.seats pass v at in
    let answer : Admission = (ask (bucket_in x) moment estimate).0 in
    let e = call pass moment estimate answer in
    let log = k.log ++ e ∷ [] in
    let w = caller v.terms log (v.mine ++ e ∷ []) in
    let far = length-set views pass w in
    let here = inside views pass v at in
    let legal = legal_push (empty_bucket given) k.log e k.legal (ap (λ (b : Bucket). (ask b moment estimate).0) k.state) in
    let mine : calls_by pass log ≡ v.mine ++ e ∷ [] = own_push k.log pass moment estimate answer ∙ ap (λ (l : List Call). l ++ e ∷ []) f.mine in (
      w,
      inr (
        given,
        record {
          log = log;
          legal = legal;
          state = behind_push (empty_bucket given) k.log e ∙ (ap (λ (b : Bucket). behind b moment estimate) k.state ∙ next);
          seats = reseated given log views pass w (λ by u apart there. fits_longer given k.log pass moment estimate answer by u apart (k.seats by u there))
              (record { same = g; seen = ([], sym (append-nil log)); mine = mine });
          others = λ by long. other_push k.log pass by moment estimate answer (λ same. omega arith) ∙ k.others by (omega (arith, far, long));
        },
      ),
      refl,
      record { by = pass; between = f.seen.0; seen_is = ap (λ (l : List Call). l ++ e ∷ []) f.seen.1; mine_is = refl; legal = legal; own = mine },
    )

some_terms : (given : Terms) (t : Option Terms) (P : Terms → Type 0) → t ≡ Some given → IfSome t P → P given
some_terms given t P e h = subst (λ (o : Option Terms). IfSome o P) e h

-- a call after the history was seen further
pub call_after : (given : Terms) (seen mine seen' mine' seen'' mine'' : List Call) (moment estimate : ℕ) (answer : Admission) → GoesOn seen seen' → mine' ≡ mine → MakesCall given seen' mine' seen'' mine'' moment estimate answer
    → MakesCall given seen mine seen'' mine'' moment estimate answer
call_after given seen mine seen' mine' seen'' mine'' moment estimate answer on same c =
    let e = call c.by moment estimate answer in
    record {
      by = c.by;
      between = on.0 ++ c.between;
      seen_is = c.seen_is ∙ ap (λ (l : List Call). l ++ e ∷ []) (ap (λ (l : List Call). l ++ c.between) on.1 ∙ append_assoc seen on.0 c.between);
      mine_is = c.mine_is ∙ ap (λ (l : List Call). l ++ e ∷ []) same;
      legal = c.legal;
      own = c.own;
    }

abbrev Asked : (x y : Charge) (views : List Caller) (pass : ℕ) (v : Caller) → Type 0
Asked x y views pass v = (w : Caller) × Ruled y (set views pass w) × asked v x y w

asked_hit : (given : Terms) (x next : Charge) (views : List Caller) (pass : ℕ) (v : Caller) → get_elem? views pass ≡ some v → v.terms ≡ Some given → Kept given x views
    → (ask (bucket_in x) next.moment next.estimate).1 ≡ bucket_in next → next.calls ≢ x.calls → Asked x next views pass v
asked_hit given x next views pass v at g k bucket apart =
    let c = called given x next views pass v next.moment next.estimate at g k bucket in (
      c.0,
      c.1,
      (
        c.2,
        (λ same. absurd (apart same)),
        (λ ne. subst (λ (t : Option Terms). IfSome t (λ (t' : Terms). MakesCall t' v.seen v.mine c.0.seen c.0.mine next.moment next.estimate (ask (bucket_in x) next.moment next.estimate).0)) (sym g) c.3),
      ),
    )

asked_miss : (given : Terms) (x : Charge) (views : List Caller) (pass : ℕ) (v : Caller) → get_elem? views pass ≡ some v → v.terms ≡ Some given → Kept given x views → Asked x x views pass v
asked_miss given x views pass v at g k =
    let l = looked_at given x views pass v at g k in
    (l.0, l.1, (l.2.0, (λ same. l.2.1), (λ apart. absurd (apart refl))))

asked_either : (given : Terms) (x next : Charge) (views : List Caller) (pass : ℕ) (v : Caller) → get_elem? views pass ≡ some v → v.terms ≡ Some given → Kept given x views
    → (b : Bool) → (b ≡ true → (ask (bucket_in x) next.moment next.estimate).1 ≡ bucket_in next) → (b ≡ true → next.calls ≢ x.calls) → Asked x (if b then next else x) views pass v
asked_either given x next views pass v at g k true bucket apart = asked_hit given x next views pass v at g k (bucket refl) (apart refl)
asked_either given x next views pass v at g k false bucket apart = asked_miss given x views pass v at g k

-- the derived comparison tells charges of another bucket, or of another number of calls, apart
pub equal_fields : (a b : Charge) → (nat_eq a.capacity b.capacity && (nat_eq a.rate b.rate && (nat_eq a.level b.level && (nat_eq a.last b.last && (nat_eq a.calls b.calls && (nat_eq a.moment b.moment && nat_eq a.estimate b.estimate)))))) ≡ true
    → (bucket_in a ≡ bucket_in b) × (a.calls ≡ b.calls)
equal_fields a b e =
    let capacity : a.capacity ≡ b.capacity = grind (arith, nat_tests) in
    let rate : a.rate ≡ b.rate = grind (arith, nat_tests) in
    let level : a.level ≡ b.level = grind (arith, nat_tests) in
    let last : a.last ≡ b.last = grind (arith, nat_tests) in
    let calls : a.calls ≡ b.calls = grind (arith, nat_tests) in
    ((λ i. record { capacity = capacity i; rate = rate i; level = level i; last = last i }), calls)

-- an exchange of the charge that was seen for the one behind a question
pub asks : (pass : ℕ) (v : Caller) (given : Terms) (is_equal : Charge → Bool) (seen next : Charge) → v.terms ≡ Some given → ((x : Charge) → is_equal x ≡ true → (bucket_in x ≡ bucket_in seen) × (x.calls ≡ seen.calls))
    → (ask (bucket_in seen) next.moment next.estimate).1 ≡ bucket_in next → next.calls ≢ seen.calls
    → Turns Ruled pass v (λ x. if is_equal x then next else x) asked
asks pass v given is_equal seen next g equal bucket apart x views rule at =
    asked_either given x next views pass v at g (kept_of given x views pass v rule at g) (is_equal x)
    (λ b. ap (λ (k : Bucket). (ask k next.moment next.estimate).1) (equal x b).0 ∙ bucket)
    (λ b same. apart (same ∙ (equal x b).1))

pub next_bucket : (bucket after : Bucket) (moment estimate moment' estimate' : ℕ) (answer : Admission) → ask bucket moment estimate ≡ (answer, after) → moment' ≡ moment → estimate' ≡ estimate → (ask bucket moment' estimate').1 ≡ after
next_bucket bucket after moment estimate moment' estimate' answer e m n =
    ap (λ (k : ℕ). (ask bucket k estimate').1) m ∙ (ap (λ (k : ℕ). (ask bucket moment k).1) n ∙ ap (λ (p : Admission × Bucket). p.1) e)

-- what one try tells: the load, and then the exchange
pub tried_miss : (given : Terms) (v w u : Caller) (seen x : Charge) → v.terms ≡ Some given → looked v seen seen w → asked w x x u → SeesMore given v.seen v.mine u.seen u.mine
tried_miss given v w u seen x g first next =
    let h : SeesMore given v.seen v.mine w.seen w.mine = some_terms given v.terms (λ (t : Terms). SeesMore t v.seen v.mine w.seen w.mine) g first.1 in
    let k : SeesMore given w.seen w.mine u.seen u.mine = some_terms given w.terms (λ (t : Terms). SeesMore t w.seen w.mine u.seen u.mine) (first.0 ∙ g) (next.1 refl) in
    record { onward = goes_twice v.seen w.seen u.seen h.onward k.onward; same = k.same ∙ h.same; legal = k.legal; by = k.by; own = k.own }

pub tried_hit : (given : Terms) (v w u : Caller) (seen x next : Charge) (moment estimate : ℕ) (answer : Admission) → v.terms ≡ Some given → looked v seen seen w → (bucket_in x ≡ bucket_in seen) × (x.calls ≡ seen.calls) → asked w x next u
    → (ask (bucket_in seen) moment estimate).0 ≡ answer → next.moment ≡ moment → next.estimate ≡ estimate → next.calls ≢ seen.calls → MakesCall given v.seen v.mine u.seen u.mine moment estimate answer
tried_hit given v w u seen x next moment estimate answer g first same second is_answer is_moment is_estimate apart =
    let h : SeesMore given v.seen v.mine w.seen w.mine = some_terms given v.terms (λ (t : Terms). SeesMore t v.seen v.mine w.seen w.mine) g first.1 in
    let a : Admission = (ask (bucket_in x) next.moment next.estimate).0 in
    let k : MakesCall given w.seen w.mine u.seen u.mine next.moment next.estimate a =
    some_terms given w.terms (λ (t : Terms). MakesCall t w.seen w.mine u.seen u.mine next.moment next.estimate a) (first.0 ∙ g) (second.2 (λ e. apart (e ∙ same.1))) in
    let is : a ≡ answer = ap (λ (b : Bucket). (ask b next.moment next.estimate).0) same.0 ∙ (ap (λ (n : ℕ). (ask (bucket_in seen) n next.estimate).0) is_moment ∙ (ap (λ (n : ℕ). (ask (bucket_in seen) moment n).0) is_estimate ∙ is_answer)) in
    call_after given v.seen v.mine w.seen w.mine u.seen u.mine moment estimate answer h.onward h.same (
    subst (λ (n : ℕ). MakesCall given w.seen w.mine u.seen u.mine n estimate answer) is_moment (
    subst (λ (n : ℕ). MakesCall given w.seen w.mine u.seen u.mine next.moment n answer) is_estimate (
    subst (λ (b : Admission). MakesCall given w.seen w.mine u.seen u.mine next.moment next.estimate b) is k)))

-- the maker lays down the terms
opens_alone : (pass : ℕ) (y : Charge) → y.level ≡ 0 → y.last ≡ 0 → (views : List Caller) → views ≡ newcomer ∷ [] → get_elem? views pass ≡ some newcomer
    → Ruled y (set views pass (caller (Some (terms_in y)) [] []))
opens_alone pass y level last views alone at =
    let w = caller (Some (terms_in y)) [] [] in
    let first = at_one newcomer newcomer pass (subst (λ (l : List Caller). get_elem? l pass ≡ some newcomer) alone at) in
    let now : set views pass w ≡ w ∷ [] = ap (λ (l : List Caller). set l pass w) alone ∙ ap (λ (n : ℕ). set (newcomer ∷ []) n w) first.0 in
    subst (Ruled y) (sym now) (
    inr (
      terms_in y,
      record {
        log = [];
        legal = tt;
        state = λ i. record { capacity = y.capacity; rate = y.rate; level = sym level i; last = sym last i };
        seats = λ by u e. subst (Fits (terms_in y) [] by) (at_one w u by e).1 (record { same = refl; seen = ([], refl); mine = refl });
        others = λ by long. refl;
      },
    ))

opens_new : (pass : ℕ) (y : Charge) → y.level ≡ 0 → y.last ≡ 0 → Turns Ruled pass newcomer (λ _. y) opened
opens_new pass y level last x views rule at = (
  caller (Some (terms_in y)) [] [],
  ⊎_elim (λ alone. opens_alone pass y level last views alone at) (λ k. absurd (no_terms k.0 (k.1.seats pass newcomer at).same)) rule,
  refl,
)

pub opens : (pass : ℕ) (v : Caller) (y : Charge) → v ≡ newcomer → y.level ≡ 0 → y.last ≡ 0 → Turns Ruled pass v (λ _. y) opened
opens pass v y new level last = subst (λ (c : Caller). Turns Ruled pass c (λ _. y) opened) (sym new) (opens_new pass y level last)

-- a second pass has seen as much
pub tells : (pass : ℕ) (v : Caller) (given : Terms) → v.terms ≡ Some given → Forks Ruled pass v v (told v)
tells pass v given g x views rule at =
    let k = kept_of given x views pass v rule at g in
    let f = k.seats pass v at in
    let more = length-append views (told v ∷ []) in
    subst (λ (l : List Caller). Ruled x (l ++ told v ∷ [])) (sym (set_again views pass v at)) (
    inr (
      given,
      record {
        log = k.log;
        legal = k.legal;
        state = k.state;
        seats = λ by u e. ⊎_elim (λ old. k.seats by u old)
            (λ t. subst (Fits given k.log by) t.1 (record { same = f.same; seen = f.seen; mine = k.others by (omega (arith, t.0)) }))
            (at_push views (told v) u by e);
        others = λ by long. k.others by (omega (arith, more, long));
      },
    ))
