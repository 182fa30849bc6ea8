-- A visit has a pass of each tenant's meter, in their order.
use Rattle.std.specs.Prelude.{◌≡◌, ℕ, ◌<◌, List, length, slice_index_or}
use Rattle.tenant_meters.specs.Metered.{MeterView, PassView, IsPassOf}
use Rattle.tenant_meters.specs.declared.callers.Terms.{Terms}

abbrev pub terms_of : MeterView → Terms
terms_of meter = meter.terms

pub record IsVisitOf (meters : List MeterView) (passes : List PassView) : Type 0 where
  pub long : length passes ≡ length meters
  pub each : (tenant : ℕ) (m : MeterView) (p : PassView) → tenant < length meters → IsPassOf (slice_index_or meters tenant m) (slice_index_or passes tenant p)
