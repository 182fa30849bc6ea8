-- The routers of tenants have the numbers of their routes.
use Rattle.std.proofs.Common.{◌≡◌, ℕ, zero, suc, ◌+◌, ◌<◌, List, [], ◌∷◌, ◌++◌, length, take, get_or, Option, Some, None, Bool, true, false, cond, not, ◌||◌, refl, ap, sym, ◌∙◌, arith}
use Rattle.std.specs.Prelude.{option_map}
use Rattle.std.specs.Str.{bytes_eq}
use Rattle.std.specs.List.{list_any, position_from}
use Rattle.std.specs.Cmp.Lexicographic.{bytes_decides}
use Rattle.std.proofs.lemmas.List.{take_more, length-take-le}
use Rattle.std.proofs.lemmas.List.Folds.{list_any_at}
use Rattle.matchit.specs.Rows.{RowsOf}
use Rattle.matchit.specs.Order.{lookup, placed}
use Rattle.matchit.specs.Seek.{same_text, first}
use Rattle.matchit.specs.Router.{RouteOf}
use Rattle.serve_config.specs.declared.tenants.Route.{Route}
use Rattle.serve_config.specs.Letters.{is_path}
use Rattle.serve_config.specs.Overview.{has_bad_path, has_double, has_one_path}
use Rattle.serve_config.specs.Tables.{AreTexts, number_at, table_of, IsTable, row_of}
use Rattle.serve_config.proofs.Literals.{literal_path, text_literal}
use Rattle.serve_config.proofs.Seeking.{seek_is, lookup_placed, texts_placed}

abbrev pub value_of : RouteOf ℕ → ℕ
value_of e = e.value

-- a table is read as the rows are
pub read_rows : (path : List ℕ) (rows : RowsOf (RouteOf ℕ)) → number_at (table_of rows) path ≡ option_map value_of (lookup path rows)
read_rows path [] = refl
read_rows path ((t, e) ∷ rest) = by (same_text t path) (read_rows path rest)
  where
    by : (v : Bool) → number_at (table_of rest) path ≡ option_map value_of (lookup path rest)
        → cond v (Some e.value) (number_at (table_of rest) path) ≡ option_map value_of (cond v (Some e) (lookup path rest))
    by true ih = refl
    by false ih = ih

pub no_value : (o : Option (RouteOf ℕ)) → option_map value_of o ≡ None → o ≡ None
no_value None e = refl
no_value (Some e) f = cc

-- what the router finds is what stands in the table
pub found_is : (path : List ℕ) (rows : RowsOf (RouteOf ℕ)) → AreTexts rows → option_map value_of (first rows path) ≡ number_at (table_of rows) path
found_is path rows are = ap (λ (o : Option (RouteOf ℕ)). option_map value_of o) (seek_is path rows are) ∙ sym (read_rows path rows)

-- a table with one path more
pub number_placed : (p path : List ℕ) (number : ℕ) (rows : RowsOf (RouteOf ℕ)) → number_at (table_of rows) p ≡ None
    → number_at (table_of (placed (p, row_of p number) rows)) path ≡ cond (bytes_eq p path) (Some number) (number_at (table_of rows) path)
number_placed p path number rows none =
    let new : lookup p rows ≡ None = no_value (lookup p rows) (sym (read_rows p rows) ∙ none) in
    read_rows path (placed (p, row_of p number) rows)
    ∙ (ap (λ (o : Option (RouteOf ℕ)). option_map value_of o) (lookup_placed p path (row_of p number) rows new)
    ∙ (by (same_text p path) ∙ ap (λ (o : Option ℕ). cond (bytes_eq p path) (Some number) o) (sym (read_rows path rows))))
  where
    by : (v : Bool) → option_map value_of (cond v (Some (row_of p number)) (lookup path rows)) ≡ cond v (Some number) (option_map value_of (lookup path rows))
    by true = refl
    by false = refl

-- ---- places in a list

abbrev pub or_next : Option ℕ → Option ℕ → Option ℕ
or_next None next = next
or_next (Some n) next = Some n

pub plus_none : (i : ℕ) → i + 0 ≡ i
plus_none i = omega arith

module _ {A : Type 0} (test : A → Bool) where
  pub position_none : (i : ℕ) (xs : List A) → list_any test xs ≡ false → position_from test i xs ≡ None
  position_none i [] none = refl
  position_none i (x ∷ xs) none = by (test x) none (position_none (i + 1) xs)
    where
      by : (v : Bool) → (v || list_any test xs) ≡ false → (list_any test xs ≡ false → position_from test (i + 1) xs ≡ None)
          → cond v (Some i) (position_from test (i + 1) xs) ≡ None
      by true e ih = cc
      by false e ih = ih e

  -- one item more
  pub position_more : (i : ℕ) (xs : List A) (x : A) (found : Option ℕ) → position_from test i xs ≡ found
      → position_from test i (xs ++ x ∷ []) ≡ or_next found (cond (test x) (Some (i + length xs)) None)
  position_more i [] x found e = rw (← e) (ap (λ (n : ℕ). cond (test x) (Some n) None) (sym (plus_none i)))
  position_more i (y ∷ ys) x found e = by (test y) e (position_more (i + 1) ys x)
    where
      by : (v : Bool) → cond v (Some i) (position_from test (i + 1) ys) ≡ found
          → ((f : Option ℕ) → position_from test (i + 1) ys ≡ f → position_from test (i + 1) (ys ++ x ∷ []) ≡ or_next f (cond (test x) (Some (i + 1 + length ys)) None))
          → cond v (Some i) (position_from test (i + 1) (ys ++ x ∷ [])) ≡ or_next found (cond (test x) (Some (i + length (y ∷ ys))) None)
      by true f ih = rw (← f) refl
      by false f ih =
          let shift : i + 1 + length ys ≡ i + length (y ∷ ys) = omega arith in
          ih found f ∙ ap (λ (n : ℕ). or_next found (cond (test x) (Some n) None)) shift

-- ---- a tenant's routes

pub neither : (a b : Bool) → (a || b) ≡ false → (a ≡ false) × (b ≡ false)
neither true b e = cc
neither false b e = (refl, e)

-- none of those before an item is like it
pub undoubled : {A : Type 0} (alike : A → A → Bool) (xs : List A) (i : ℕ) (x : A) → i < length xs → x ≡ get_or xs i x → has_double alike xs ≡ false
    → list_any (λ y. alike y x) (take i xs) ≡ false
undoubled alike [] i x lt at none = absurd (omega arith)
undoubled alike (y ∷ ys) zero x lt at none = refl
undoubled {A} alike (y ∷ ys) (suc i) x lt at none =
    let within : i < length ys = omega (arith, lt) in
    let parts = neither (list_any (λ z. alike y z) ys) (has_double alike ys) none in
    by (alike y x) refl within parts.0 (undoubled alike ys i x within at parts.1)
  where
    by : (v : Bool) → alike y x ≡ v → i < length ys → list_any (λ z. alike y z) ys ≡ false → list_any (λ z. alike z x) (take i ys) ≡ false → (v || list_any (λ z. alike z x) (take i ys)) ≡ false
    by true e within others rest = cc (others, list_any_at (λ z. alike y z) ys i x within (ap (λ (z : A). alike y z) (sym at) ∙ e))
    by false e within others rest = rest

-- the next route's path is not there yet
pub fresh : (first : ℕ) (routes : List Route) (i : ℕ) (r : Route) (rows : RowsOf (RouteOf ℕ)) → i < length routes → r ≡ get_or routes i r
    → has_double has_one_path routes ≡ false → IsTable first (take i routes) rows → number_at (table_of rows) r.path ≡ None
fresh first routes i r rows lt at once table =
    table.finds r.path ∙ position_none (λ s. bytes_eq s.path r.path) first (take i routes) (undoubled has_one_path routes i r lt at once)

-- and then it is
pub table_more : (first number : ℕ) (routes : List Route) (i : ℕ) (r : Route) (rows : RowsOf (RouteOf ℕ)) → i < length routes → r ≡ get_or routes i r
    → has_double has_one_path routes ≡ false → is_path r.path ≡ true → number ≡ first + i → IsTable first (take i routes) rows
    → IsTable first (take (i + 1) routes) (placed (r.path, row_of r.path number) rows)
table_more first number routes i r rows lt at once path counted table = record {
  texts = texts_placed r.path (row_of r.path number) rows (text_literal r.path (literal_path r.path path)) table.texts;
  finds = λ asked.
      number_placed r.path asked number rows (fresh first routes i r rows lt at once table)
      ∙ (ap (λ (o : Option ℕ). cond (bytes_eq r.path asked) (Some number) o) (table.finds asked)
      ∙ (by asked (bytes_eq r.path asked) refl (position_from (λ s. bytes_eq s.path asked) first (take i routes)) refl
      ∙ (sym (position_more (λ s. bytes_eq s.path asked) first (take i routes) r (position_from (λ s. bytes_eq s.path asked) first (take i routes)) refl)
      ∙ ap (λ (rs : List Route). position_from (λ s. bytes_eq s.path asked) first rs) (sym more))));
}
  where
    more : take (i + 1) routes ≡ take i routes ++ r ∷ []
    more = take_more routes i r lt ∙ ap (λ (s : Route). take i routes ++ s ∷ []) (sym at)

    place : length (take i routes) ≡ i
    place = length-take-le i routes (omega (arith, lt))

    by : (asked : List ℕ) (v : Bool) → bytes_eq r.path asked ≡ v → (o : Option ℕ) → position_from (λ s. bytes_eq s.path asked) first (take i routes) ≡ o
        → cond v (Some number) o ≡ or_next o (cond v (Some (first + length (take i routes))) None)
    by asked true e None f = ap (λ (n : ℕ). Some n) (counted ∙ ap (λ (n : ℕ). first + n) (sym place))
    by asked true e (Some n) f =
        let same : r.path ≡ asked = (bytes_decides r.path asked).0 e in
        let none : position_from (λ s. bytes_eq s.path r.path) first (take i routes) ≡ None = sym (table.finds r.path) ∙ fresh first routes i r rows lt at once table in
        cc (rw same at none, f)
    by asked false e None f = refl
    by asked false e (Some n) f = refl

-- a path that is none of the bad ones
pub good_path : (routes : List Route) (i : ℕ) (r : Route) → i < length routes → r ≡ get_or routes i r → list_any has_bad_path routes ≡ false → is_path r.path ≡ true
good_path routes i r lt at none = by (is_path r.path) refl
  where
    by : (v : Bool) → is_path r.path ≡ v → v ≡ true
    by true e = refl
    by false e =
        let bad : has_bad_path r ≡ true = ap (λ (b : Bool). not b) e in
        cc (none, list_any_at has_bad_path routes i r lt (ap (λ (s : Route). has_bad_path s) (sym at) ∙ bad))
