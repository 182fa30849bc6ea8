-- What always holds of a pass.
use Rattle.std.specs.Prelude.{◌≡◌, ℕ, List, Option, Some}
use Rattle.tenant_meters.specs.Histories.{empty_bucket, IsLegal, calls_by}
use Rattle.tenant_meters.specs.declared.callers.Call.{Call}
use Rattle.tenant_meters.specs.declared.callers.Terms.{Terms}

-- what was seen is a legal history by the meter's terms, and it has the pass's own calls and no others of its number
pub record IsKnown (terms : Option Terms) (seen mine : List Call) : Type 0 where
  pub given : Terms
  pub same : terms ≡ Some given
  pub legal : IsLegal (empty_bucket given) seen
  pub by : ℕ
  pub own : calls_by by seen ≡ mine
