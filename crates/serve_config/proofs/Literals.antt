-- Routes without parameters: how `matchit` reads one, and that two of them conflict only where they are equal.
use Rattle.std.proofs.Common.{◌≡◌, ℕ, zero, suc, ◌<◌, List, [], ◌∷◌, ◌++◌, length, drop, get_or, Some, None, Bool, true, false, cond, Ok, refl, sym, ap, ◌∙◌, arith, ◌==◌, ltb, ◌&&◌, append-nil, append_assoc}
use Rattle.std.specs.List.{list_all}
use Rattle.std.proofs.lemmas.Bool.Decides.{nat_tests}
use Rattle.std.specs.Cmp.Lexicographic.{bytes_decides}
use Rattle.matchit.specs.Rows.{RowsOf}
use Rattle.matchit.specs.Seek.{slash, same_text}
use Rattle.matchit.specs.Level.{IsText}
use Rattle.matchit.specs.Order.{common_len, lookup}
use Rattle.matchit.specs.Conflict.{conflicts, wild_clash, segment_clash, param_place, next_place, segment_start}
use Rattle.matchit.specs.Route.{Scan, scan, feed, shape_error, parse_route}
use Rattle.matchit.specs.Router.{nearest_from}
use Rattle.matchit.proofs.RouteLemmas.{scan-ok, scan-end, parse-ok}
use Rattle.matchit.proofs.CountLemmas.{same-common}
use Rattle.serve_config.specs.Letters.{is_path, is_path_byte}

-- each is a byte, and none opens or closes a parameter
abbrev pub IsLiteral : List ℕ → Type 0
IsLiteral [] = Unit {0}
IsLiteral (b ∷ bs) = (b < 256) × ((b == 123) ≡ false) × ((b == 125) ≡ false) × IsLiteral bs

pub both : (a b : Bool) → (a && b) ≡ true → (a ≡ true) × (b ≡ true)
both true true e = (refl, refl)
both true false e = cc
both false b e = cc

pub path_byte : (b : ℕ) → is_path_byte b ≡ true → (b < 256) × ((b == 123) ≡ false) × ((b == 125) ≡ false)
path_byte b e = (grind (arith, nat_tests), grind (arith, nat_tests), grind (arith, nat_tests))

pub literal_bytes : (bs : List ℕ) → list_all is_path_byte bs ≡ true → IsLiteral bs
literal_bytes [] e = tt
literal_bytes (b ∷ bs) e =
    let parts = both (is_path_byte b) (list_all is_path_byte bs) e in
    let byte = path_byte b parts.0 in
    (byte.0, byte.1, byte.2, literal_bytes bs parts.1)

pub literal_path : (path : List ℕ) → is_path path ≡ true → IsLiteral path
literal_path [] e = tt
literal_path (b ∷ bs) e =
    let parts = both (b == 47) (list_all is_path_byte bs) e in
    let front : (b == 47) ≡ true = parts.0 in
    (grind (arith, nat_tests), grind (arith, nat_tests), grind (arith, nat_tests), literal_bytes bs parts.1)

pub text_literal : (path : List ℕ) → IsLiteral path → IsText path
text_literal [] is = tt
text_literal (b ∷ bs) is = (is.0, text_literal bs is.3)

-- ---- reading a route

-- what a scan has read of such a route
abbrev pub scanned : List ℕ → Scan
scanned done = record { pattern = done; text = done; names = []; name_start = 0; catch_all = false; mode = 0 }

pub feed_literal : (done : List ℕ) (b : ℕ) → (b == 123) ≡ false → (b == 125) ≡ false → feed (scanned done) b ≡ Ok (scanned (done ++ b ∷ []))
feed_literal done b opens closes = rw (opens, closes) refl

pub scan_literal : (p done : List ℕ) → IsLiteral p → scan (scanned done) p ≡ Ok (scanned (done ++ p))
scan_literal [] done is = scan-end (scanned done) ∙ ap (λ (d : List ℕ). Ok (scanned d)) (sym (append-nil done))
scan_literal (b ∷ bs) done is =
    scan-ok (scanned done) (scanned (done ++ b ∷ [])) b bs (feed_literal done b is.1 is.2)
    ∙ (scan_literal bs (done ++ b ∷ []) is.3 ∙ ap (λ (d : List ℕ). Ok (scanned d)) (append_assoc done (b ∷ []) bs))

pub shape_literal : (p : List ℕ) → IsText p → shape_error p ≡ None
shape_literal [] is = refl
shape_literal (b ∷ bs) is =
    let low : b < 256 = is.0 in
    let above : ltb 257 b ≡ false = grind (arith, nat_tests) in
    let param : (b == 256) ≡ false = grind (arith, nat_tests) in
    let all : (b == 257) ≡ false = grind (arith, nat_tests) in
    rw (above, param, all) (shape_literal bs is.1)

-- the pattern is the text itself
pub parse_literal : (p : List ℕ) → IsLiteral p → parse_route p ≡ Ok (scanned p)
parse_literal p is = parse-ok p (scanned p) (scan_literal p [] is) (shape_literal p (text_literal p is))

-- ---- conflicts

pub text_at : (p : List ℕ) (i : ℕ) → IsText p → get_or p i 0 < 256
text_at [] i is = omega arith
text_at (b ∷ bs) zero is = is.0
text_at (b ∷ bs) (suc i) is = text_at bs i is.1

pub text_drop : (n : ℕ) (p : List ℕ) → IsText p → IsText (drop n p)
text_drop zero p is = is
text_drop (suc n) [] is = tt
text_drop (suc n) (b ∷ bs) is = text_drop n bs is.1

pub no_param : (p : List ℕ) → IsText p → param_place p ≡ None
no_param [] is = refl
no_param (b ∷ bs) is =
    let low : b < 256 = is.0 in
    let all : (b == 257) ≡ false = grind (arith, nat_tests) in
    let param : (b == 256) ≡ false = grind (arith, nat_tests) in
    rw (all, param) (by (b == slash) (no_param bs is.1))
  where
    by : (v : Bool) → param_place bs ≡ None → cond v None (next_place (param_place bs)) ≡ None
    by true none = refl
    by false none = rw none refl

pub no_wild : (x y : ℕ) → x < 256 → wild_clash x y ≡ false
no_wild x y low =
    let param : (x == 256) ≡ false = grind (arith, nat_tests) in
    let all : (x == 257) ≡ false = grind (arith, nat_tests) in
    rw (param, all) refl

pub no_segment : (a b : List ℕ) → IsText a → segment_clash a b ≡ false
no_segment a b is = rw (no_param a is) refl

pub not_both : (a b : List ℕ) → same_text b a ≡ false → ((common_len a b == length a) && (common_len a b == length b)) ≡ false
not_both a b differ = by ((common_len a b == length a) && (common_len a b == length b)) refl
  where
    by : (v : Bool) → ((common_len a b == length a) && (common_len a b == length b)) ≡ v → v ≡ false
    by false e = refl
    by true e =
        let parts = both (common_len a b == length a) (common_len a b == length b) e in
        let one : (common_len a b == length a) ≡ true = parts.0 in
        let other : (common_len a b == length b) ≡ true = parts.1 in
        let lengths : length a ≡ length b = grind (arith, nat_tests) in
        let common : common_len a b ≡ length b = grind (arith, nat_tests) in
        let same : a ≡ b = same-common a b lengths common in
        cc (differ, (bytes_decides b a).1 (sym same))

pub no_conflict : (a b : List ℕ) → IsText a → same_text b a ≡ false → conflicts a b ≡ false
no_conflict a b is differ =
    rw (not_both a b differ, no_wild (get_or a (common_len a b) 0) (get_or b (common_len a b) 0) (text_at a (common_len a b) is))
    (no_segment (drop (segment_start a (common_len a b)) a) (drop (segment_start a (common_len a b)) b) (text_drop (segment_start a (common_len a b)) a is))

module _ {K : Type 0} where
  pub not_first : (p t : List ℕ) (k : K) (rest : RowsOf K) → lookup p ((t, k) ∷ rest) ≡ None → (same_text t p ≡ false) × (lookup p rest ≡ None)
  not_first p t k rest none = by (same_text t p) none
    where
      by : (v : Bool) → cond v (Some k) (lookup p rest) ≡ None → (v ≡ false) × (lookup p rest ≡ None)
      by true e = cc
      by false e = (refl, e)

  -- a route that no row has conflicts with none
  pub no_nearest : (p : List ℕ) (rows : RowsOf K) → IsText p → lookup p rows ≡ None → nearest_from p (None, 0) rows ≡ None
  no_nearest p [] is none = refl
  no_nearest p ((t, k) ∷ rest) is none =
      let parts = not_first p t k rest none in
      rw (no_conflict p t is parts.0) (no_nearest p rest is parts.1)
