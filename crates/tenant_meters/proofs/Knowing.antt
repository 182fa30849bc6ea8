-- A second pass knows a legal history too, in which no call has its number.
use Rattle.std.proofs.Common.{◌≡◌, ℕ, ◌+◌, ◌≤◌, ne_eqb, Bool, List, [], ◌∷◌, if◌then◌else◌, refl, ap, ◌∙◌, arith, Option}
use Rattle.tenant_meters.specs.Histories.{calls_by}
use Rattle.tenant_meters.specs.Knowing.{IsKnown}
use Rattle.tenant_meters.specs.declared.callers.Call.{Call}
use Rattle.tenant_meters.specs.declared.callers.Terms.{Terms}

-- above all numbers of a history
abbrev above : List Call → ℕ
above [] = 0
above (e ∷ log) = e.by + 1 + above log

none_above : (log : List Call) (by : ℕ) → above log ≤ by → calls_by by log ≡ []
none_above [] by far = refl
none_above (e ∷ log) by far =
    ap (λ (b : Bool). if b then e ∷ calls_by by log else calls_by by log) (ne_eqb e.by by (λ same. omega arith)) ∙ none_above log by (omega (arith, far))

-- a second pass has seen as much, and made no call
pub known_second : (terms : Option Terms) (seen mine : List Call) → IsKnown terms seen mine → IsKnown terms seen []
known_second terms seen mine k = record { given = k.given; same = k.same; legal = k.legal; by = above seen; own = none_above seen (above seen) (omega arith) }
