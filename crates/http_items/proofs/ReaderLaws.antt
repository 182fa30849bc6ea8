-- Readers that are made of others read what is made of their pieces.
use Rattle.std.proofs.Common.{◌≡◌, ℕ, Bool, true, false, List, Option, Some, None, if◌then◌else◌, refl, ap, sym, ◌∙◌, subst}
use Rattle.std.proofs.lemmas.Option.{none-some, same_Some, cond_some}
use Rattle.httparse.specs.Pieces.{Piece, Then}
use Rattle.http_items.specs.Readers.{Reader, IsReaderOf, beside, followed, in_turn, passed, checked, retold}

-- a fact of one piece is that of an equal one
pub told : {A : Type 0} (piece : Piece A) (text : List ℕ) (x y : A × List ℕ) → x ≡ y → piece x.0 text x.1 → piece y.0 text y.1
told {A} piece text x y e fact = let P : A × List ℕ → Type 0 = λ z. piece z.0 text z.1 in subst P e fact

-- what a choice came to, by its test
pub chosen : {A P : Type 0} (b : Bool) (x y z : A) → (if b then x else y) ≡ z → (b ≡ true → x ≡ z → P) → (b ≡ false → y ≡ z → P) → P
chosen true x y z e then_case else_case = then_case refl e
chosen false x y z e then_case else_case = else_case refl e

-- one piece behind another

beside_some : {A B : Type 0} (a : A) (o : Option (B × List ℕ)) (y : (A × B) × List ℕ) → beside a o ≡ Some y →
    (x : B × List ℕ) × (o ≡ Some x) × (((a, x.0), x.1) ≡ y)
beside_some a None y e = absurd (none-some y e)
beside_some a (Some x) y e = (x, refl, same_Some _ _ e)

followed_some : {A B : Type 0} (next : Reader B) (o : Option (A × List ℕ)) (y : (A × B) × List ℕ) → followed next o ≡ Some y →
    (x : A × List ℕ) × (o ≡ Some x) × (beside x.0 (next x.1) ≡ Some y)
followed_some next None y e = absurd (none-some y e)
followed_some next (Some x) y e = (x, refl, e)

in_turn_reads : {A B : Type 0} (G : Piece A) (H : Piece B) (first : Reader A) (next : Reader B) → IsReaderOf G first → IsReaderOf H next →
    (text : List ℕ) (y : (A × B) × List ℕ) → in_turn first next text ≡ Some y → Then G H y.0 text y.1
in_turn_reads G H first next f n text y e =
    let x = followed_some next (first text) y e in
    let z = beside_some x.0.0 (next x.0.1) y x.2 in
    told (Then G H) text ((x.0.0, z.0.0), z.0.1) y z.2
    (x.0.1, f.reads text x.0.0 x.0.1 x.1, n.reads x.0.1 z.0.0 z.0.1 z.1)

pub in_turn_reader : {A B : Type 0} (G : Piece A) (H : Piece B) (first : Reader A) (next : Reader B) → IsReaderOf G first → IsReaderOf H next →
    IsReaderOf (Then G H) (in_turn first next)
in_turn_reader G H first next f n = record {
  reads = λ text a rest e. in_turn_reads G H first next f n text (a, rest) e;
  finds = λ text a rest x.
      ap (followed next) (f.finds text a.0 x.0 x.1) ∙ ap (beside a.0) (n.finds x.0 a.1 rest x.2);
}

-- a piece that passes a test

passed_some : {A : Type 0} (test : A → Bool) (o : Option (A × List ℕ)) (y : A × List ℕ) → passed test o ≡ Some y →
    (o ≡ Some y) × (test y.0 ≡ true)
passed_some test None y e = absurd (none-some y e)
passed_some {A} test (Some x) y e =
    let parts = cond_some (test x.0) x y e in
    (ap (λ (z : A × List ℕ). let o : Option (A × List ℕ) = Some z in o) parts.1, ap (λ (z : A × List ℕ). test z.0) (sym parts.1) ∙ parts.0)

pub checked_reader : {A : Type 0} (G : Piece A) (test : A → Bool) (read : Reader A) → IsReaderOf G read →
    IsReaderOf (λ a text rest. G a text rest × (test a ≡ true)) (checked test read)
checked_reader {A} G test read r = record {
  reads = λ text a rest e. let parts = passed_some test (read text) (a, rest) e in (r.reads text a rest parts.0, parts.1);
  finds = λ text a rest x.
      ap (passed test) (r.finds text a rest x.0)
      ∙ ap (λ (b : Bool). let o : Option (A × List ℕ) = if b then Some (a, rest) else None in o) x.1;
}

-- a piece that is told as another value

pub retold_some : {A B : Type 0} (as_other : A → B) (o : Option (A × List ℕ)) (y : B × List ℕ) → retold as_other o ≡ Some y →
    (x : A × List ℕ) × (o ≡ Some x) × ((as_other x.0, x.1) ≡ y)
retold_some as_other None y e = absurd (none-some y e)
retold_some as_other (Some x) y e = (x, refl, same_Some _ _ e)

pub retold_reader : {A B : Type 0} (G : Piece A) (H : Piece B) (as_other : A → B) (back : B → A) (read : Reader A) → IsReaderOf G read →
    ((a : A) (text rest : List ℕ) → G a text rest → H (as_other a) text rest) →
    ((b : B) (text rest : List ℕ) → H b text rest → G (back b) text rest) →
    ((b : B) → as_other (back b) ≡ b) →
    IsReaderOf H (λ text. retold as_other (read text))
retold_reader {A} {B} G H as_other back read r to from same = record {
  reads = λ text b rest e.
      let x = retold_some as_other (read text) (b, rest) e in
      told H text (as_other x.0.0, x.0.1) (b, rest) x.2 (to x.0.0 text x.0.1 (r.reads text x.0.0 x.0.1 x.1));
  finds = λ text b rest h.
      ap (retold as_other) (r.finds text (back b) rest (from b text rest h))
      ∙ ap (λ (c : B). let o : Option (B × List ℕ) = Some (c, rest) in o) (same b);
}

-- the same piece in other words
pub restated : {A : Type 0} (G H : Piece A) (read : Reader A) → IsReaderOf G read →
    ((a : A) (text rest : List ℕ) → G a text rest → H a text rest) →
    ((a : A) (text rest : List ℕ) → H a text rest → G a text rest) →
    IsReaderOf H read
restated G H read r to from = record {
  reads = λ text a rest e. to a text rest (r.reads text a rest e);
  finds = λ text a rest h. r.finds text a rest (from a text rest h);
}
