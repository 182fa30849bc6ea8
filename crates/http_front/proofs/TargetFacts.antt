-- The path of a target is text: its bytes are visible ones of ASCII.
use Rattle.std.proofs.Common.{◌≡◌, ℕ, zero, suc, ◌<◌, ◌≤◌, Bool, true, false, ◌&&◌, List, [], ◌∷◌, length, take, drop, Some, None, IsUtf8, All, option_and_then, codes, if◌then◌else◌, ◌==◌, nat_le, refl, ap, sym, ◌∙◌, arith}
use Rattle.std.specs.List.{list_all, prefix_len}
use Rattle.std.proofs.lemmas.Bool.{leb-true}
use Rattle.std.proofs.lemmas.List.Elements.{All-cons, All-nil}
use Rattle.std.proofs.lemmas.Option.{none-some, same_Some, cond_some, option_and_then_some}
use Rattle.std.proofs.lemmas.Str.{IsUtf8-from_ascii}
use Rattle.std.proofs.lemmas.Str.Ascii.{IsAscii-from_all}
use Rattle.http1.specs.Text.{eq_ignore_case}
use Rattle.http_items.specs.Targets.{is_visible, slash, is_of_host, is_no_question_mark, without_query, behind_host, behind_scheme, rooted, path_behind, path_in}
use Rattle.http_items.proofs.ReaderLaws.{chosen}

both : (p q : Bool) → (p && q) ≡ true → (p ≡ true) × (q ≡ true)
both true q e = (refl, e)
both false q e = let bad : ⊥ = cc in absurd bad

all_visible : (t : List ℕ) → list_all is_visible t ≡ true → All (λ b. b < 128) t
all_visible [] e = All-nil (λ b. b < 128)
all_visible (b ∷ t) e =
    let parts = both (is_visible b) (list_all is_visible t) e in
    let bounds = both (nat_le 33 b) (nat_le b 126) parts.0 in
    let most : b ≤ 126 = leb-true b 126 bounds.1 in
    All-cons (λ b. b < 128) b t (omega arith) (all_visible t parts.1)

visible_text : (t : List ℕ) → list_all is_visible t ≡ true → IsUtf8 t
visible_text t e = IsUtf8-from_ascii t (IsAscii-from_all t (all_visible t e))

take_visible : (n : ℕ) (t : List ℕ) → list_all is_visible t ≡ true → list_all is_visible (take n t) ≡ true
take_visible zero t e = refl
take_visible (suc n) [] e = refl
take_visible (suc n) (b ∷ t) e =
    let parts = both (is_visible b) (list_all is_visible t) e in
    ap (λ (p : Bool). p && list_all is_visible (take n t)) parts.0 ∙ take_visible n t parts.1

drop_visible : (n : ℕ) (t : List ℕ) → list_all is_visible t ≡ true → list_all is_visible (drop n t) ≡ true
drop_visible zero t e = e
drop_visible (suc n) [] e = refl
drop_visible (suc n) (b ∷ t) e = drop_visible n t (both (is_visible b) (list_all is_visible t) e).1

rooted_visible : (t : List ℕ) → list_all is_visible t ≡ true → list_all is_visible (rooted t) ≡ true
rooted_visible [] e = refl
rooted_visible (b ∷ t) e = e

visible_at : (t p : List ℕ) → t ≡ p → list_all is_visible t ≡ true → list_all is_visible p ≡ true
visible_at t p is e = ap (list_all is_visible) (sym is) ∙ e

behind_scheme_visible : (t r : List ℕ) → behind_scheme t ≡ Some r → list_all is_visible t ≡ true → list_all is_visible r ≡ true
behind_scheme_visible t r e visible =
    chosen (nat_le 7 (length t)) (if eq_ignore_case (take 7 t) (codes "http://") then Some (drop 7 t) else None) None (Some r) e
    (λ _ here.
    let parts = cond_some (eq_ignore_case (take 7 t) (codes "http://")) (drop 7 t) r here in
    visible_at (drop 7 t) r parts.1 (drop_visible 7 t visible))
    (λ _ none. absurd (none-some r none))

path_behind_visible : (t p : List ℕ) → path_behind t ≡ Some p → list_all is_visible t ≡ true → list_all is_visible p ≡ true
path_behind_visible t p e visible =
    chosen (prefix_len is_of_host t == 0) None (Some (rooted (without_query (behind_host t)))) (Some p) e
    (λ _ none. absurd (none-some p none))
    (λ _ here.
    visible_at (rooted (without_query (behind_host t))) p (same_Some _ _ here)
    (rooted_visible (without_query (behind_host t))
    (take_visible (prefix_len is_no_question_mark (behind_host t)) (behind_host t) (drop_visible (prefix_len is_of_host t) t visible))))

path_in_visible : (t p : List ℕ) → path_in t ≡ Some p → list_all is_visible t ≡ true → list_all is_visible p ≡ true
path_in_visible [] p e visible = absurd (none-some p e)
path_in_visible (b ∷ t) p e visible =
    chosen (b == slash) (Some (without_query (b ∷ t))) (option_and_then path_behind (behind_scheme (b ∷ t))) (Some p) e
    (λ _ here.
    visible_at (without_query (b ∷ t)) p (same_Some _ _ here)
    (take_visible (prefix_len is_no_question_mark (b ∷ t)) (b ∷ t) visible))
    (λ _ other.
    option_and_then_some path_behind (behind_scheme (b ∷ t)) p other
    (λ r was got. path_behind_visible r p got (behind_scheme_visible (b ∷ t) r was visible)))

pub path_text : (t p : List ℕ) → path_in t ≡ Some p → list_all is_visible t ≡ true → IsUtf8 p
path_text t p e visible = visible_text p (path_in_visible t p e visible)
