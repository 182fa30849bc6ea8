-- Batches: the jobs of the admitted items, their answers, and which of them is an item's.
use Rattle.std.proofs.Common.{◌≡◌, ℕ, zero, suc, ◌+◌, ◌<◌, ◌≤◌, List, [], ◌∷◌, ◌++◌, length, map, drop, get_or, Some, slice_get, refl, sym, ap, ap₂, subst, ◌∙◌, arith, append-nil}
use Rattle.std.proofs.lemmas.List.{length_push}
use Rattle.std.specs.List.{AllByRecursion, AllZip}
use Rattle.http_items.specs.declared.refusals.Refusal.{Refusal}
use Rattle.sandbox_states.specs.Views.{AdmittedView}
use Rattle.serve_config.specs.declared.tenants.Tenant.{Tenant}
use Rattle.wasm_meaning.specs.Programs.{Program}
use Rattle.workers.specs.Batches.{AreNumbered}
use Rattle.recorded_runner.specs.Batch.{FirstIs, behind, AreOfAdmitted, IsJobOf, AreJobsOf, AddsJobOf}
use Rattle.recorded_runner.specs.Fates.{Entry, Fate, Refuses, Admits, Decided}

-- ---- the first of many

pub first_of : {A : Type 0} (IsOf : Entry → A → Type 0) (fate : Fate) (entry : Entry) (xs : List A) (x : A) (ys : List A)
    → fate ≡ Admits entry → xs ≡ x ∷ ys → FirstIs IsOf fate xs → IsOf entry x
first_of {A} IsOf fate entry xs x ys admitted is own = subst (λ (zs : List A). FirstIs IsOf (Admits entry) zs) is (subst (λ (f : Fate). FirstIs IsOf f xs) admitted own)

pub first_of_none : {A : Type 0} (IsOf : Entry → A → Type 0) (fate : Fate) (entry : Entry) (xs : List A)
    → fate ≡ Admits entry → xs ≡ [] → FirstIs IsOf fate xs → ⊥
first_of_none {A} IsOf fate entry xs admitted is own = subst (λ (zs : List A). FirstIs IsOf (Admits entry) zs) is (subst (λ (f : Fate). FirstIs IsOf f xs) admitted own)

pub first_weaker : {A : Type 0} (IsOf IsAlso : Entry → A → Type 0) (fate : Fate) (xs : List A) → ((entry : Entry) (x : A) → IsOf entry x → IsAlso entry x)
    → FirstIs IsOf fate xs → FirstIs IsAlso fate xs
first_weaker IsOf IsAlso (Refuses refusal) xs also own = tt
first_weaker IsOf IsAlso (Admits entry) [] also own = absurd own
first_weaker IsOf IsAlso (Admits entry) (x ∷ xs) also own = also entry x own

pub behind_first : {A : Type 0} (fate : Fate) (entry : Entry) (xs : List A) (x : A) (ys : List A) → fate ≡ Admits entry → xs ≡ x ∷ ys → ys ≡ behind fate xs
behind_first fate entry xs x ys admitted is = sym (ap₂ behind admitted is)

pub behind_refused : {A : Type 0} (fate : Fate) (xs : List A) (refusal : Refusal) → fate ≡ Refuses refusal → xs ≡ behind fate xs
behind_refused fate xs refusal refused = sym (ap (λ (f : Fate). behind f xs) refused)

-- ---- one for each admitted item

both_first : {A : Type 0} (IsOf : Entry → A → Type 0) (fate : Fate) (xs ys : List A) (Rest Both : List A → Type 0) → ((zs : List A) → Rest zs → Both (zs ++ ys))
    → FirstIs IsOf fate xs → Rest (behind fate xs) → FirstIs IsOf fate (xs ++ ys) × Both (behind fate (xs ++ ys))
both_first IsOf (Refuses refusal) xs ys Rest Both go own rest = (tt, go xs rest)
both_first IsOf (Admits entry) [] ys Rest Both go own rest = absurd own
both_first IsOf (Admits entry) (x ∷ xs) ys Rest Both go own rest = (own, go xs rest)

pub of_both : {A : Type 0} (IsOf : Entry → A → Type 0) (items others : List Decided) (xs ys : List A) → AreOfAdmitted IsOf items xs → AreOfAdmitted IsOf others ys → AreOfAdmitted IsOf (items ++ others) (xs ++ ys)
of_both {A} IsOf [] others xs ys all more = subst (λ (zs : List A). AreOfAdmitted IsOf others (zs ++ ys)) (sym all) more
of_both IsOf (d ∷ items) others xs ys all more =
    both_first IsOf d.fate xs ys (λ zs. AreOfAdmitted IsOf items zs) (λ zs. AreOfAdmitted IsOf (items ++ others) zs) (λ zs rest. of_both IsOf items others zs ys rest more) all.0 all.1

few_first : {A : Type 0} (IsOf : Entry → A → Type 0) (fate : Fate) (xs : List A) (n : ℕ) → FirstIs IsOf fate xs → length (behind fate xs) ≤ n → length xs ≤ suc n
few_first IsOf (Refuses refusal) xs n own few = omega (arith, few)
few_first IsOf (Admits entry) [] n own few = absurd own
few_first IsOf (Admits entry) (x ∷ xs) n own few = omega (arith, few)

-- there are no more than items
pub as_few : {A : Type 0} (IsOf : Entry → A → Type 0) (items : List Decided) (xs : List A) → AreOfAdmitted IsOf items xs → length xs ≤ length items
as_few {A} IsOf [] xs all = omega (arith, ap (λ (zs : List A). length zs) all)
as_few IsOf (d ∷ items) xs all = few_first IsOf d.fate xs (length items) all.0 (as_few IsOf items (behind d.fate xs) all.1)

each_first : {A : Type 0} (IsOf : Entry → A → Type 0) (P : A → Type 0) (fate : Fate) (xs : List A) → ((entry : Entry) (x : A) → IsOf entry x → P x)
    → FirstIs IsOf fate xs → AllByRecursion P (behind fate xs) → AllByRecursion P xs
each_first IsOf P (Refuses refusal) xs holds own all = all
each_first IsOf P (Admits entry) [] holds own all = absurd own
each_first IsOf P (Admits entry) (x ∷ xs) holds own all = (holds entry x own, all)

-- what holds of each item's own holds of all
pub each_own : {A : Type 0} (IsOf : Entry → A → Type 0) (P : A → Type 0) (items : List Decided) (xs : List A) → ((entry : Entry) (x : A) → IsOf entry x → P x)
    → AreOfAdmitted IsOf items xs → AllByRecursion P xs
each_own {A} IsOf P [] xs holds all = subst (λ (zs : List A). AllByRecursion P zs) (sym all) tt
each_own IsOf P (d ∷ items) xs holds all = each_first IsOf P d.fate xs holds all.0 (each_own IsOf P items (behind d.fate xs) holds all.1)

zip_first : {A B : Type 0} (IsOf : Entry → A → Type 0) (R : A → B → Type 0) (IsTo : Entry → B → Type 0) (fate : Fate) (xs : List A) (ys : List B) (Rest : List A → Type 0) (Due : List B → Type 0)
    → ((entry : Entry) (x : A) (y : B) → IsOf entry x → R x y → IsTo entry y)
    → ((vs : List A) (ws : List B) → Rest vs → AllZip R vs ws → Due ws)
    → FirstIs IsOf fate xs → Rest (behind fate xs) → AllZip R xs ys → FirstIs IsTo fate ys × Due (behind fate ys)
zip_first IsOf R IsTo (Refuses refusal) xs ys Rest Due join go own rest zs = (tt, go xs ys rest zs)
zip_first IsOf R IsTo (Admits entry) [] ys Rest Due join go own rest zs = absurd own
zip_first IsOf R IsTo (Admits entry) (x ∷ xs) [] Rest Due join go own rest zs = absurd zs
zip_first IsOf R IsTo (Admits entry) (x ∷ xs) (y ∷ ys) Rest Due join go own rest zs = (join entry x y own zs.0, go xs ys rest zs.1)

none_zipped : {A B : Type 0} (R : A → B → Type 0) (ys : List B) → AllZip R [] ys → ys ≡ []
none_zipped R [] zs = refl
none_zipped R (y ∷ ys) zs = absurd zs

-- what belongs to each item's own belongs to the item
pub of_zipped : {A B : Type 0} (IsOf : Entry → A → Type 0) (R : A → B → Type 0) (IsTo : Entry → B → Type 0) (items : List Decided) (xs : List A) (ys : List B)
    → ((entry : Entry) (x : A) (y : B) → IsOf entry x → R x y → IsTo entry y)
    → AreOfAdmitted IsOf items xs → AllZip R xs ys → AreOfAdmitted IsTo items ys
of_zipped {A} {B} IsOf R IsTo [] xs ys join all zs = none_zipped R ys (subst (λ (vs : List A). AllZip R vs ys) all zs)
of_zipped IsOf R IsTo (d ∷ items) xs ys join all zs =
    zip_first IsOf R IsTo d.fate xs ys (λ vs. AreOfAdmitted IsOf items vs) (λ ws. AreOfAdmitted IsTo items ws) join (λ vs ws rest more. of_zipped IsOf R IsTo items vs ws join rest more) all.0 all.1 zs

-- ---- one job more

record IsOneMore (tenants : List Tenant) (programs : List Program) (fate : Fate) (old new : List AdmittedView) : Type 0 where
  more : List AdmittedView
  is : new ≡ old ++ more
  own : FirstIs (IsJobOf tenants programs) fate more
  alone : behind fate more ≡ []

one_more : (tenants : List Tenant) (programs : List Program) (fate : Fate) (old new : List AdmittedView) → AddsJobOf tenants programs fate old new → IsOneMore tenants programs fate old new
one_more tenants programs (Refuses refusal) old new is = record { more = []; is = is ∙ sym (append-nil old); own = tt; alone = refl }
one_more tenants programs (Admits entry) old new a = record { more = a.0 ∷ []; is = a.1; own = a.3; alone = refl }

pub jobs_more : (tenants : List Tenant) (programs : List Program) (items : List Decided) (d : Decided) (old new : List AdmittedView)
    → AreJobsOf tenants programs items old → AddsJobOf tenants programs d.fate old new → AreJobsOf tenants programs (items ++ d ∷ []) new
jobs_more tenants programs items d old new are adds =
    let one = one_more tenants programs d.fate old new adds in
    subst (λ (jobs : List AdmittedView). AreJobsOf tenants programs (items ++ d ∷ []) jobs) (sym one.is) (of_both (IsJobOf tenants programs) items (d ∷ []) old one.more are (one.own, one.alone))

numbered_from : (from : ℕ) (jobs : List AdmittedView) (job : AdmittedView) → ((place : ℕ) (j : AdmittedView) → slice_get jobs place ≡ Some j → j.place ≡ from + place) → job.place ≡ from + length jobs
    → (place : ℕ) (j : AdmittedView) → slice_get (jobs ++ job ∷ []) place ≡ Some j → j.place ≡ from + place
numbered_from from [] job each is zero j at =
    let same : job ≡ j = cc in
    omega (arith, is, ap (λ (i : AdmittedView). i.place) same)
numbered_from from [] job each is (suc place) j at = absurd cc
numbered_from from (i ∷ jobs) job each is zero j at = each 0 j at
numbered_from from (i ∷ jobs) job each is (suc place) j at =
    omega (arith, numbered_from (suc from) jobs job (λ (n : ℕ) (k : AdmittedView) (at' : slice_get jobs n ≡ Some k). omega (arith, each (suc n) k at')) (omega (arith, is)) place j at)

pub numbered_more : (tenants : List Tenant) (programs : List Program) (fate : Fate) (old new : List AdmittedView) → AreNumbered old → AddsJobOf tenants programs fate old new → AreNumbered new
numbered_more tenants programs (Refuses refusal) old new numbered is = subst (λ (jobs : List AdmittedView). AreNumbered jobs) (sym is) numbered
numbered_more tenants programs (Admits entry) old new numbered a =
    subst (λ (jobs : List AdmittedView). AreNumbered jobs) (sym a.1) (λ (place : ℕ) (job : AdmittedView) (at : slice_get (old ++ a.0 ∷ []) place ≡ Some job).
    omega (arith, numbered_from 0 old a.0 (λ (n : ℕ) (j : AdmittedView) (at' : slice_get old n ≡ Some j). omega (arith, numbered n j at')) (omega (arith, a.2)) place job at))

-- ---- the items that are left

pub left_at : {A B : Type 0} (f : A → B) (xs : List A) (k : ℕ) (x : A) → k < length xs → x ≡ get_or xs k x → drop k (map f xs) ≡ f x ∷ drop (suc k) (map f xs)
left_at f [] k x below is = absurd (omega (arith, below))
left_at f (y ∷ xs) zero x below is = ap (λ z. f z ∷ map f xs) (sym is)
left_at f (y ∷ xs) (suc k) x below is = left_at f xs k x (omega (arith, below)) is

-- the first of what is left is the next item's, and the others are left behind it
pub next_left : {A B : Type 0} (IsOf : Entry → A → Type 0) (see : B → Decided) (all : List B) (items : List Decided) (done : List B) (next : B) (xs : List A)
    → map see all ≡ items → length done < length all → next ≡ get_or all (length done) next → AreOfAdmitted IsOf (drop (length done) items) xs
    → FirstIs IsOf (see next).fate xs × AreOfAdmitted IsOf (drop (length (done ++ next ∷ [])) items) (behind (see next).fate xs)
next_left IsOf see all items done next xs same below is left =
    let parted : drop (length done) items ≡ see next ∷ drop (suc (length done)) items =
    ap (λ (ds : List Decided). drop (length done) ds) (sym same)
    ∙ left_at see all (length done) next below is
    ∙ ap (λ (ds : List Decided). see next ∷ drop (suc (length done)) ds) same in
    let count : suc (length done) ≡ length (done ++ next ∷ []) = omega (arith, length_push done next) in
    let both : FirstIs IsOf (see next).fate xs × AreOfAdmitted IsOf (drop (suc (length done)) items) (behind (see next).fate xs) =
    subst (λ (ds : List Decided). AreOfAdmitted IsOf ds xs) parted left in
    (both.0, subst (λ (n : ℕ). AreOfAdmitted IsOf (drop n items) (behind (see next).fate xs)) count both.1)
