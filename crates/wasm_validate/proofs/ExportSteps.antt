-- The next export is judged by whether it is the first that has the name of one before it.
use Rattle.std.proofs.Common.{◌≡◌, ℕ, ◌+◌, ◌<◌, ◌≤◌, Bool, true, false, eqb, List, [], ◌∷◌, length, get_or, take, Option, None, Some, refl, ap, sym, ◌∙◌, subst, ⊎_elim, arith}
use Rattle.std.specs.Option.{option_eq}
use Rattle.std.proofs.lemmas.Bool.{cases_lt, eq-eqb, ne_eqb}
use Rattle.wasm_ops.specs.declared.modules.Export.{Export}
use Rattle.wasm_ops.specs.declared.modules.Module.{Module}
use Rattle.wasm_meaning.specs.declared.violations.Rule.{Rule}
use Rattle.wasm_meaning.specs.declared.violations.Rule.TheVariants.{UnknownIndex, DoubleExport}
use Rattle.wasm_meaning.specs.ValidityChecks.{first_rule}
use Rattle.wasm_meaning.specs.Validity.{is_used, is_unknown, count_of, export_rule, next_export_rule}
use Rattle.wasm_validate.specs.Names.{IsFirstUsed}

used_so_far
    : (exports : List Export) (used : Option ℕ) (i : ℕ) (x : Export) → IsFirstUsed exports used → i < length exports → ((first : ℕ) → used ≡ Some first → i ≤ first)
    → is_used (take i exports) (get_or exports i x).name ≡ option_eq eqb used (Some i)
used_so_far exports None i x are lt ahead = are i lt x
used_so_far exports (Some first) i x (within, there, before) lt ahead =
    let most = ahead first refl in
    ⊎_elim
    (λ less. before i less x ∙ sym (ne_eqb first i (λ same. omega arith)))
    (λ more. let same : first ≡ i = omega arith in subst (λ (n : ℕ). is_used (take n exports) (get_or exports n x).name ≡ true) same (there x) ∙ sym (eq-eqb first i same))
    (cases_lt i first)

pub judged
    : (m : Module) (exports : List Export) (used : Option ℕ) (item i : ℕ) (x : Export) (is_first : Bool) (found : Option Rule) → IsFirstUsed exports used → item ≡ i
    → i < length exports → x ≡ get_or exports i x → ((first : ℕ) → used ≡ Some first → item ≤ first) → is_first ≡ option_eq eqb used (Some item)
    → found ≡ export_rule m is_first x → next_export_rule m (take i exports) x ≡ found
judged m exports used item i x is_first found are here lt at ahead told was =
    let so_far = used_so_far exports used i x are lt (λ first is. let most = ahead first is in omega arith) in
    let named : is_used (take i exports) x.name ≡ is_first =
    ap (λ (it : Export). is_used (take i exports) it.name) at ∙ (so_far ∙ (ap (λ (n : ℕ). option_eq eqb used (Some n)) (sym here) ∙ sym told)) in
    ap (λ (b : Bool). export_rule m b x) named ∙ sym was

double_breaks : (unknown : Bool) → first_rule ((unknown, UnknownIndex) ∷ (true, DoubleExport) ∷ []) ≡ None → ⊥
double_breaks true fine = cc
double_breaks false fine = cc

-- it breaks a rule where it is the first, so that the walk ends there
pub goes_on
    : (m : Module) (used : Option ℕ) (item first : ℕ) (x : Export) (is_first : Bool) (found : Option Rule) → used ≡ Some first → item ≤ first
    → is_first ≡ option_eq eqb used (Some item) → found ≡ export_rule m is_first x → found ≡ None → item + 1 ≤ first
goes_on m used item first x is_first found is most told was fine = ⊎_elim
    (λ less. omega arith)
    (λ more.
    let same : first ≡ item = omega arith in
    let true_here : is_first ≡ true = told ∙ (ap (λ (u : Option ℕ). option_eq eqb u (Some item)) is ∙ eq-eqb first item same) in
    absurd (double_breaks (is_unknown (count_of m x.kind) x.index) (ap (λ (b : Bool). export_rule m b x) (sym true_here) ∙ (sym was ∙ fine))))
    (cases_lt item first)
