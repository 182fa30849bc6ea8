-- The bytes of a connection behind one record more.
use Rattle.std.proofs.Common.{◌≡◌, ◌≢◌, ℕ, Bool, true, false, ◌==◌, if◌then◌else◌, List, [], ◌∷◌, ◌++◌, refl, ap, ◌∙◌, append-nil, eq-eqb, ne_eqb}
use Rattle.std.proofs.lemmas.Grind.{flat_map-append}
use Rattle.std.specs.List.{flat_map}
use Rattle.recording_format.specs.declared.records.Record.{Record}
use Rattle.recorded_arrivals.specs.Arrivals.{bytes_in, bytes_on}

pub chosen : {A : Type 0} (b : Bool) (x y : A) → b ≡ true → (if b then x else y) ≡ x
chosen true x y e = refl
chosen false x y e = absurd cc

pub not_chosen : {A : Type 0} (b : Bool) (x y : A) → b ≡ false → (if b then x else y) ≡ y
not_chosen true x y e = absurd cc
not_chosen false x y e = refl

no_choice : {A : Type 0} (b : Bool) (x : A) → (if b then x else x) ≡ x
no_choice true x = refl
no_choice false x = refl

-- the bytes of a record on a connection
abbrev brought : (link : ℕ) → Record → List ℕ
brought link r = if r.link == link then bytes_in r.event else []

bytes_more : (link : ℕ) (before : List Record) (r : Record) → bytes_on link (before ++ r ∷ []) ≡ bytes_on link before ++ brought link r
unfolding bytes_on
bytes_more link before r =
    flat_map-append (λ (q : Record). brought link q) before (r ∷ [])
    ∙ ap (λ (bytes : List ℕ). flat_map (λ (q : Record). brought link q) before ++ bytes) (append-nil (brought link r))

pub bytes_here : (link : ℕ) (before : List Record) (r : Record) → r.link ≡ link → bytes_on link (before ++ r ∷ []) ≡ bytes_on link before ++ bytes_in r.event
bytes_here link before r here =
    bytes_more link before r
    ∙ ap (λ (bytes : List ℕ). bytes_on link before ++ bytes) (chosen (r.link == link) (bytes_in r.event) [] (eq-eqb r.link link here))

none_more : (link : ℕ) (before : List Record) (r : Record) → brought link r ≡ [] → bytes_on link (before ++ r ∷ []) ≡ bytes_on link before
none_more link before r none =
    bytes_more link before r
    ∙ ap (λ (bytes : List ℕ). bytes_on link before ++ bytes) none
    ∙ append-nil (bytes_on link before)

pub bytes_elsewhere : (link : ℕ) (before : List Record) (r : Record) → r.link ≢ link → bytes_on link (before ++ r ∷ []) ≡ bytes_on link before
bytes_elsewhere link before r other = none_more link before r (not_chosen (r.link == link) (bytes_in r.event) [] (ne_eqb r.link link other))

pub bytes_silent : (link : ℕ) (before : List Record) (r : Record) → bytes_in r.event ≡ [] → bytes_on link (before ++ r ∷ []) ≡ bytes_on link before
bytes_silent link before r none =
    none_more link before r (ap (λ (bytes : List ℕ). if r.link == link then bytes else []) none ∙ no_choice (r.link == link) [])

pub bytes_of_none : (link : ℕ) → bytes_on link [] ≡ []
unfolding bytes_on
bytes_of_none link = refl
