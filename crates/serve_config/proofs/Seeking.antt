-- Among routes without parameters the walk of `matchit` finds the one whose text is the path.
use Rattle.std.proofs.Common.{◌≡◌, ℕ, zero, suc, ◌-◌, ◌<◌, ◌≤◌, List, [], ◌∷◌, length, Option, Some, None, Bool, true, false, cond, refl, sym, ◌∙◌, arith, nat_eq, ◌==◌, ◌&&◌}
use Rattle.std.proofs.lemmas.Bool.Decides.{nat_tests}
use Rattle.std.specs.Cmp.Lexicographic.{bytes_decides}
use Rattle.matchit.specs.Rows.{RowsOf, param_token, catch_all_token, comes_before}
use Rattle.matchit.specs.Seek.{own, step, or_else, seek, param_step, has_slash, same_text}
use Rattle.matchit.specs.Level.{IsText}
use Rattle.matchit.specs.Order.{lookup, placed}
use Rattle.serve_config.specs.Tables.{AreTexts}
use Rattle.serve_config.proofs.Literals.{not_first}

module _ {K : Type 0} where
  pub own_is : (rows : RowsOf K) → own rows ≡ lookup [] rows
  own_is [] = refl
  own_is (([], k) ∷ rest) = refl
  own_is ((b ∷ t, k) ∷ rest) = own_is rest

  pub step_is : (b : ℕ) (path : List ℕ) (rows : RowsOf K) → lookup (b ∷ path) rows ≡ lookup path (step b rows)
  step_is b path [] = refl
  step_is b path (([], k) ∷ rest) = step_is b path rest
  step_is b path ((x ∷ t, k) ∷ rest) = by (x == b) refl (step_is b path rest)
    where
      by : (v : Bool) → (x == b) ≡ v → lookup (b ∷ path) rest ≡ lookup path (step b rest)
          → cond (nat_eq x b && same_text t path) (Some k) (lookup (b ∷ path) rest) ≡ lookup path (cond v ((t, k) ∷ step b rest) (step b rest))
      by true e ih =
          let same : nat_eq x b ≡ true = grind (arith, nat_tests) in
          rw (same, ih) refl
      by false e ih =
          let differ : nat_eq x b ≡ false = grind (arith, nat_tests) in
          rw (differ, ih) refl

  pub texts_step : (b : ℕ) (rows : RowsOf K) → AreTexts rows → AreTexts (step b rows)
  texts_step b [] are = tt
  texts_step b (([], k) ∷ rest) are = texts_step b rest are.1
  texts_step b ((x ∷ t, k) ∷ rest) are = by (x == b) (texts_step b rest are.1)
    where
      by : (v : Bool) → AreTexts (step b rest) → AreTexts (cond v ((t, k) ∷ step b rest) (step b rest))
      by true ih = (are.0.1, ih)
      by false ih = ih

  -- no row goes on with a parameter
  pub no_step : (b : ℕ) (rows : RowsOf K) → 256 ≤ b → AreTexts rows → step b rows ≡ []
  no_step b [] high are = refl
  no_step b (([], k) ∷ rest) high are = no_step b rest high are.1
  no_step b ((x ∷ t, k) ∷ rest) high are =
      let low : x < 256 = are.0.0 in
      let differ : (x == b) ≡ false = grind (arith, nat_tests) in
      rw differ (no_step b rest high are.1)

  pub no_rest : (path : List ℕ) → (param_step {K = K} [] path).1 ≡ []
  unfolding param_step
  no_rest path =
      elim (has_slash path) as (λ v. (cond {A = ℕ × RowsOf K} v (0, []) (length path, [])).1 ≡ []) [
        | true ↦ refl
        | false ↦ refl
      ]

  pub seek_none : (skip : ℕ) (path : List ℕ) → seek {K = K} skip [] path ≡ None
  unfolding seek
  seek_none skip [] = refl
  seek_none (suc skip) (b ∷ path) = seek_none skip path
  seek_none zero (b ∷ path) = rw (seek_none 0 path, no_rest (b ∷ path), seek_none ((param_step {K = K} [] (b ∷ path)).0 - 1) path) refl

  pub else_none : (o : Option K) → or_else o None ≡ o
  else_none None = refl
  else_none (Some k) = refl

  pub seek_is : (path : List ℕ) (rows : RowsOf K) → AreTexts rows → seek 0 rows path ≡ lookup path rows
  unfolding seek
  seek_is [] rows are = own_is rows
  seek_is (b ∷ path) rows are =
      rw (no_step param_token rows (omega arith) are, no_step catch_all_token rows (omega arith) are, no_rest (b ∷ path), seek_none ((param_step {K = K} [] (b ∷ path)).0 - 1) path)
      (else_none (seek 0 (step b rows) path) ∙ (seek_is path (step b rows) (texts_step b rows are) ∙ sym (step_is b path rows)))

  -- ---- one route more

  pub texts_placed : (p : List ℕ) (k : K) (rows : RowsOf K) → IsText p → AreTexts rows → AreTexts (placed (p, k) rows)
  texts_placed p k [] is are = (is, tt)
  texts_placed p k ((t, j) ∷ rest) is are = by (comes_before p t) (texts_placed p k rest is are.1)
    where
      by : (v : Bool) → AreTexts (placed (p, k) rest) → AreTexts (cond v ((p, k) ∷ (t, j) ∷ rest) ((t, j) ∷ placed (p, k) rest))
      by true ih = (is, are)
      by false ih = (are.0, ih)

  -- past another row
  pub lookup_past : (p t path : List ℕ) (k j : K) (rest : RowsOf K) → same_text t p ≡ false
      → cond (same_text t path) (Some j) (cond (same_text p path) (Some k) (lookup path rest))
      ≡ cond (same_text p path) (Some k) (cond (same_text t path) (Some j) (lookup path rest))
  lookup_past p t path k j rest differ = by (same_text t path) refl (same_text p path) refl
    where
      by : (v : Bool) → same_text t path ≡ v → (w : Bool) → same_text p path ≡ w
          → cond v (Some j) (cond w (Some k) (lookup path rest)) ≡ cond w (Some k) (cond v (Some j) (lookup path rest))
      by false e w f = refl
      by true e false f = refl
      by true e true f =
          let one : t ≡ path = (bytes_decides t path).0 e in
          let other : p ≡ path = (bytes_decides p path).0 f in
          cc (differ, (bytes_decides t p).1 (one ∙ sym other))

  pub lookup_placed : (p path : List ℕ) (k : K) (rows : RowsOf K) → lookup p rows ≡ None
      → lookup path (placed (p, k) rows) ≡ cond (same_text p path) (Some k) (lookup path rows)
  lookup_placed p path k [] none = refl
  lookup_placed p path k ((t, j) ∷ rest) none =
      let parts = not_first p t j rest none in
      by (comes_before p t) parts.0 (lookup_placed p path k rest parts.1)
    where
      by : (v : Bool) → same_text t p ≡ false → lookup path (placed (p, k) rest) ≡ cond (same_text p path) (Some k) (lookup path rest)
          → lookup path (cond v ((p, k) ∷ (t, j) ∷ rest) ((t, j) ∷ placed (p, k) rest)) ≡ cond (same_text p path) (Some k) (lookup path ((t, j) ∷ rest))
      by true differ ih = refl
      by false differ ih = rw ih (lookup_past p t path k j rest differ)
