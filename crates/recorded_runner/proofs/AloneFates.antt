-- What becomes of a tenant's items: the same where all others' connections are taken out.
use Rattle.std.proofs.Common.{◌≡◌, ◌⊎◌, inl, inr, ℕ, ◌<◌, Bool, true, false, ◌==◌, if◌then◌else◌, List, [], ◌∷◌, ◌++◌, length, filter, get_or, refl, sym, ap, ap₂, subst, ◌∙◌, arith, eq-eqb, eqb-true}
use Rattle.std.specs.List.{flat_map, AllByRecursion}
use Rattle.admission.specs.Bucket.{Bucket}
use Rattle.admission.specs.Metering.{Question, behind_all}
use Rattle.http_items.specs.Items.{Heard, Asked, Faulty, items}
use Rattle.recorded_arrivals.specs.Arrivals.{Arrived, arrivals}
use Rattle.recorded_arrivals.proofs.LimitLaws.{arrivals_below}
use Rattle.recording_format.specs.declared.records.Record.{Record}
use Rattle.recording_format.specs.Connections.{tenants_of}
use Rattle.recording_format.specs.Standing.{standing_behind}
use Rattle.recording_format.specs.Following.{IsLegal}
use Rattle.serve_config.specs.declared.tenants.Tenant.{Tenant}
use Rattle.wasm_meaning.specs.Programs.{Program}
use Rattle.recorded_runner.specs.Alone.{alone}
use Rattle.recorded_runner.specs.Fates.{Fate, Decided, meter_at_first, asked_of, asked_in, fate_of_heard, fate_of, decided_item, decided_behind, decided}
use Rattle.recorded_runner.specs.Replies.{reply_to}
use Rattle.recorded_runner.specs.ReplayText.{replies_on}
use Rattle.recorded_runner.proofs.AloneLaws.{tenants_alone}
use Rattle.recorded_runner.proofs.AloneArrivals.{AreAlike, AreEndings, IsAlike, IsFaulty, alike_both, all_alike, arrivals_alone, arrivals_ended, arrivals_ending, arrived_of, is_here, moved}
use Rattle.recorded_runner.proofs.FateLaws.{all_begun}
use Rattle.recorded_runner.proofs.KeptLaws.{kept, kept_here, kept_other, kept_push, kept_pass}
use Rattle.recorded_runner.proofs.NumberLaws.{of_tenant, among, owner_among, kept_on}

abbrev AreKnown : (count : ℕ) → List Arrived → Type 0
AreKnown count arrived = AllByRecursion (λ (a : Arrived). a.link < count) arrived

known_push : (count : ℕ) (xs : List Arrived) (a : Arrived) → AreKnown count xs → a.link < count → AreKnown count (xs ++ a ∷ [])
known_push count [] a all known = (known, tt)
known_push count (x ∷ xs) a all known = (all.0, known_push count xs a all.1 known)

-- ---- what the tenant's meter is asked

the_tenant : (owners : List ℕ) (tenant link : ℕ) → link < length owners → (get_or owners link 0 == tenant) ≡ true
    → (get_or (filter (of_tenant tenant) owners) (among owners tenant link) 0 == tenant) ≡ true
the_tenant owners tenant link below e = eq-eqb (get_or (filter (of_tenant tenant) owners) (among owners tenant link) 0) tenant (owner_among owners tenant link below e)

one_asked : (tenants : List Tenant) (owners : List ℕ) (tenant : ℕ) (a : Arrived) (arrived : List Arrived) → a.link < length owners → (b : Bool) → (get_or owners a.link 0 == tenant) ≡ b
    → asked_in tenants (filter (of_tenant tenant) owners) tenant (arrived_of owners tenant arrived) ≡ asked_in tenants owners tenant arrived
    → asked_in tenants (filter (of_tenant tenant) owners) tenant (arrived_of owners tenant (a ∷ arrived)) ≡ asked_in tenants owners tenant (a ∷ arrived)
one_asked tenants owners tenant a arrived known true e more =
    ap (λ (l : List Arrived). asked_in tenants (filter (of_tenant tenant) owners) tenant l) (kept_here (is_here owners tenant) (moved owners tenant) a arrived e)
    ∙ ap₂ (λ (b : Bool) (l : List Question). (if b then asked_of tenants tenant a.moment a.heard else []) ++ l) (the_tenant owners tenant a.link known e ∙ sym e) more
one_asked tenants owners tenant a arrived known false e more =
    ap (λ (l : List Arrived). asked_in tenants (filter (of_tenant tenant) owners) tenant l) (kept_other (is_here owners tenant) (moved owners tenant) a arrived e)
    ∙ more
    ∙ sym (ap (λ (b : Bool). (if b then asked_of tenants tenant a.moment a.heard else []) ++ asked_in tenants owners tenant arrived) e)

asked_kept : (tenants : List Tenant) (owners : List ℕ) (tenant : ℕ) (arrived : List Arrived) → AreKnown (length owners) arrived
    → asked_in tenants (filter (of_tenant tenant) owners) tenant (arrived_of owners tenant arrived) ≡ asked_in tenants owners tenant arrived
asked_kept tenants owners tenant [] all = refl
asked_kept tenants owners tenant (a ∷ arrived) all =
    one_asked tenants owners tenant a arrived all.0 (get_or owners a.link 0 == tenant) refl (asked_kept tenants owners tenant arrived all.1)

-- ---- what becomes of each

abbrev is_decided : (owners : List ℕ) (tenant : ℕ) → Decided → Bool
is_decided owners tenant d = get_or owners d.link 0 == tenant

abbrev moved_item : (owners : List ℕ) (tenant : ℕ) → Decided → Decided
moved_item owners tenant d = record { link = among owners tenant d.link; head = d.head; keep = d.keep; fate = d.fate }

abbrev pub decided_of : (owners : List ℕ) (tenant : ℕ) → List Decided → List Decided
decided_of owners tenant items = kept (is_decided owners tenant) (moved_item owners tenant) items

same_fate : (tenants : List Tenant) (owners : List ℕ) (tenant : ℕ) (before : List Arrived) (a : Arrived) → AreKnown (length owners) before → a.link < length owners → (get_or owners a.link 0 == tenant) ≡ true
    → fate_of tenants (filter (of_tenant tenant) owners) (arrived_of owners tenant before) (moved owners tenant a) ≡ fate_of tenants owners before a
same_fate tenants owners tenant before a all known e =
    let others = filter (of_tenant tenant) owners in
    let kept_before = arrived_of owners tenant before in
    let now : get_or others (among owners tenant a.link) 0 ≡ tenant = owner_among owners tenant a.link known e in
    let old : get_or owners a.link 0 ≡ tenant = eqb-true (get_or owners a.link 0) tenant e in
    ap (λ (o : ℕ). fate_of_heard tenants o (behind_all (meter_at_first tenants o) (asked_in tenants others o kept_before)) a.moment a.heard) now
    ∙ ap (λ (qs : List Question). fate_of_heard tenants tenant (behind_all (meter_at_first tenants tenant) qs) a.moment a.heard) (asked_kept tenants owners tenant before all)
    ∙ ap (λ (o : ℕ). fate_of_heard tenants o (behind_all (meter_at_first tenants o) (asked_in tenants owners o before)) a.moment a.heard) (sym old)

one_decided : (tenants : List Tenant) (owners : List ℕ) (tenant : ℕ) (before : List Arrived) (a : Arrived) (arrived : List Arrived) → AreKnown (length owners) before → a.link < length owners
    → (b : Bool) → (get_or owners a.link 0 == tenant) ≡ b
    → decided_behind tenants (filter (of_tenant tenant) owners) (arrived_of owners tenant (before ++ a ∷ [])) (arrived_of owners tenant arrived) ≡ decided_of owners tenant (decided_behind tenants owners (before ++ a ∷ []) arrived)
    → decided_behind tenants (filter (of_tenant tenant) owners) (arrived_of owners tenant before) (arrived_of owners tenant (a ∷ arrived)) ≡ decided_of owners tenant (decided_behind tenants owners before (a ∷ arrived))
one_decided tenants owners tenant before a arrived all known true e more =
    let others = filter (of_tenant tenant) owners in
    ap (λ (l : List Arrived). decided_behind tenants others (arrived_of owners tenant before) l) (kept_here (is_here owners tenant) (moved owners tenant) a arrived e)
    ∙ ap₂ (λ (fate : Fate) (l : List Arrived). decided_item (moved owners tenant a) fate ∷ decided_behind tenants others l (arrived_of owners tenant arrived))
    (same_fate tenants owners tenant before a all known e) (sym (kept_push (is_here owners tenant) (moved owners tenant) before a e))
    ∙ ap (λ (l : List Decided). decided_item (moved owners tenant a) (fate_of tenants owners before a) ∷ l) more
    ∙ sym (kept_here (is_decided owners tenant) (moved_item owners tenant) (decided_item a (fate_of tenants owners before a)) (decided_behind tenants owners (before ++ a ∷ []) arrived) e)
one_decided tenants owners tenant before a arrived all known false e more =
    let others = filter (of_tenant tenant) owners in
    ap (λ (l : List Arrived). decided_behind tenants others (arrived_of owners tenant before) l) (kept_other (is_here owners tenant) (moved owners tenant) a arrived e)
    ∙ ap (λ (l : List Arrived). decided_behind tenants others l (arrived_of owners tenant arrived)) (sym (kept_pass (is_here owners tenant) (moved owners tenant) before a e))
    ∙ more
    ∙ sym (kept_other (is_decided owners tenant) (moved_item owners tenant) (decided_item a (fate_of tenants owners before a)) (decided_behind tenants owners (before ++ a ∷ []) arrived) e)

decided_kept : (tenants : List Tenant) (owners : List ℕ) (tenant : ℕ) (before arrived : List Arrived) → AreKnown (length owners) before → AreKnown (length owners) arrived
    → decided_behind tenants (filter (of_tenant tenant) owners) (arrived_of owners tenant before) (arrived_of owners tenant arrived) ≡ decided_of owners tenant (decided_behind tenants owners before arrived)
decided_kept tenants owners tenant before [] first all = refl
decided_kept tenants owners tenant before (a ∷ arrived) first all =
    one_decided tenants owners tenant before a arrived first all.0 (get_or owners a.link 0 == tenant) refl
    (decided_kept tenants owners tenant (before ++ a ∷ []) arrived (known_push (length owners) before a first all.0) all.1)

-- ---- at any moment of a refusal

known_alike : (count : ℕ) (xs ys : List Arrived) → AreAlike xs ys → AreKnown count ys → AreKnown count xs
known_alike count [] [] are all = tt
known_alike count [] (b ∷ ys) are all = absurd are
known_alike count (a ∷ xs) [] are all = absurd are
known_alike count (a ∷ xs) (b ∷ ys) are all = (omega (arith, are.0.link, all.0), known_alike count xs ys are.1 all.1)

asked_whenever : (tenants : List Tenant) (tenant one other : ℕ) (h : Heard) → IsFaulty h ⊎ (one ≡ other) → asked_of tenants tenant one h ≡ asked_of tenants tenant other h
asked_whenever tenants tenant one other (Asked method path keep body) (inl faulty) = absurd faulty
asked_whenever tenants tenant one other (Faulty number head keep) (inl faulty) = refl
asked_whenever tenants tenant one other h (inr same) = ap (λ (m : ℕ). asked_of tenants tenant m h) same

fate_whenever : (tenants : List Tenant) (tenant : ℕ) (meter : Bucket) (one other : ℕ) (h : Heard) → IsFaulty h ⊎ (one ≡ other) → fate_of_heard tenants tenant meter one h ≡ fate_of_heard tenants tenant meter other h
fate_whenever tenants tenant meter one other (Asked method path keep body) (inl faulty) = absurd faulty
fate_whenever tenants tenant meter one other (Faulty number head keep) (inl faulty) = refl
fate_whenever tenants tenant meter one other h (inr same) = ap (λ (m : ℕ). fate_of_heard tenants tenant meter m h) same

asked_alike : (tenants : List Tenant) (owners : List ℕ) (tenant : ℕ) (xs ys : List Arrived) → AreAlike xs ys → asked_in tenants owners tenant xs ≡ asked_in tenants owners tenant ys
asked_alike tenants owners tenant [] [] are = refl
asked_alike tenants owners tenant [] (b ∷ ys) are = absurd are
asked_alike tenants owners tenant (a ∷ xs) [] are = absurd are
asked_alike tenants owners tenant (a ∷ xs) (b ∷ ys) are =
    let asked : asked_of tenants tenant a.moment a.heard ≡ asked_of tenants tenant b.moment b.heard =
    asked_whenever tenants tenant a.moment b.moment a.heard are.0.moment ∙ ap (λ (h : Heard). asked_of tenants tenant b.moment h) are.0.heard in
    ap₂ (λ (n : ℕ) (qs : List Question). (if get_or owners n 0 == tenant then qs else []) ++ asked_in tenants owners tenant xs) are.0.link asked
    ∙ ap (λ (l : List Question). (if get_or owners b.link 0 == tenant then asked_of tenants tenant b.moment b.heard else []) ++ l) (asked_alike tenants owners tenant xs ys are.1)

fate_alike : (tenants : List Tenant) (owners : List ℕ) (before before' : List Arrived) (a b : Arrived) → AreAlike before before' → IsAlike a b
    → decided_item a (fate_of tenants owners before a) ≡ decided_item b (fate_of tenants owners before' b)
fate_alike tenants owners before before' a b are is =
    let owner = get_or owners a.link 0 in
    let fate : fate_of tenants owners before a ≡ fate_of tenants owners before' b =
    fate_whenever tenants owner (behind_all (meter_at_first tenants owner) (asked_in tenants owners owner before)) a.moment b.moment a.heard is.moment
    ∙ ap₂ (λ (qs : List Question) (h : Heard). fate_of_heard tenants owner (behind_all (meter_at_first tenants owner) qs) b.moment h) (asked_alike tenants owners owner before before' are) is.heard
    ∙ ap (λ (n : ℕ). fate_of_heard tenants (get_or owners n 0) (behind_all (meter_at_first tenants (get_or owners n 0)) (asked_in tenants owners (get_or owners n 0) before')) b.moment b.heard) is.link in
    ap₂ (λ (n : ℕ) (f : Fate). decided_item (record { link = n; moment = a.moment; heard = a.heard }) f) is.link fate
    ∙ ap (λ (h : Heard). decided_item (record { link = b.link; moment = b.moment; heard = h }) (fate_of tenants owners before' b)) is.heard

decided_alike : (tenants : List Tenant) (owners : List ℕ) (before before' xs ys : List Arrived) → AreAlike before before' → AreAlike xs ys
    → decided_behind tenants owners before xs ≡ decided_behind tenants owners before' ys
decided_alike tenants owners before before' [] [] first are = refl
decided_alike tenants owners before before' [] (b ∷ ys) first are = absurd are
decided_alike tenants owners before before' (a ∷ xs) [] first are = absurd are
decided_alike tenants owners before before' (a ∷ xs) (b ∷ ys) first are =
    ap₂ (λ (d : Decided) (l : List Decided). d ∷ l) (fate_alike tenants owners before before' a b first are.0)
    (decided_alike tenants owners (before ++ a ∷ []) (before' ++ b ∷ []) xs ys (alike_both before before' (a ∷ []) (b ∷ []) first (are.0, tt)) are.1)

-- ---- all items

pub decided_alone : AreEndings → (tenants : List Tenant) (tenant : ℕ) (records : List Record) → IsLegal records → decided tenants (alone tenant records) ≡ decided_of (tenants_of records) tenant (decided tenants records)
unfolding decided
decided_alone ends tenants tenant records legal =
    let owners = tenants_of records in
    let others = filter (of_tenant tenant) owners in
    let one = (standing_behind (alone tenant records)).last in
    let other = (standing_behind records).last in
    let alike = all_alike ends one other records in
    let known : AreKnown (length owners) (arrivals_ending other records) = subst (λ (l : List Arrived). AreKnown (length owners) l) (arrivals_ended records) (arrivals_below records legal) in
    ap₂ (λ (os : List ℕ) (l : List Arrived). decided_behind tenants os [] l) (tenants_alone tenant records legal) (arrivals_ended (alone tenant records) ∙ arrivals_alone tenant one records legal)
    ∙ decided_kept tenants owners tenant [] (arrivals_ending one records) tt (known_alike (length owners) (arrivals_ending one records) (arrivals_ending other records) alike known)
    ∙ ap (λ (l : List Decided). decided_of owners tenant l)
    (decided_alike tenants owners [] [] (arrivals_ending one records) (arrivals_ending other records) tt alike
    ∙ ap (λ (l : List Arrived). decided_behind tenants owners [] l) (sym (arrivals_ended records)))

-- ---- the replies of a connection

same_reply : (tenants : List Tenant) (programs : List Program) (owners : List ℕ) (tenant : ℕ) (d : Decided) → reply_to tenants programs (moved_item owners tenant d) ≡ reply_to tenants programs d
unfolding reply_to
same_reply tenants programs owners tenant d = refl

decided_known : (tenants : List Tenant) (records : List Record) → IsLegal records → AllByRecursion (λ (d : Decided). d.link < length (tenants_of records)) (decided tenants records)
unfolding decided
decided_known tenants records legal = all_begun tenants (tenants_of records) (length (tenants_of records)) [] (arrivals records) (arrivals_below records legal)

pub replies_alone : AreEndings → (tenants : List Tenant) (programs : List Program) (tenant link : ℕ) (records : List Record) → IsLegal records → link < length (tenants_of records) → (get_or (tenants_of records) link 0 == tenant) ≡ true
    → replies_on tenants programs (among (tenants_of records) tenant link) (decided tenants (alone tenant records)) ≡ replies_on tenants programs link (decided tenants records)
unfolding replies_on
replies_alone ends tenants programs tenant link records legal below owned =
    let owners = tenants_of records in
    ap (λ (l : List Decided). flat_map (λ (d : Decided). if d.link == among owners tenant link then reply_to tenants programs d else []) l) (decided_alone ends tenants tenant records legal)
    ∙ kept_on owners tenant (λ (d : Decided). d.link) (moved_item owners tenant) (λ (d : Decided). reply_to tenants programs d) link (λ d. refl) (λ d. same_reply tenants programs owners tenant d) below owned (decided tenants records) (decided_known tenants records legal)
