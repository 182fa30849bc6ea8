-- What the values before this one give is there, and each is in its range.
use Rattle.std.proofs.Common.{◌≡◌, length}
use Rattle.std.specs.List.{AllByRecursion}
use Rattle.serde_json.specs.View.{items_view}
use Rattle.serve_config.specs.Kinds.{each_of}
use Rattle.serve_config.specs.Walk.{tenant_of}
use Rattle.serve_config.specs.Ranges.{IsTenantInRange}
use Rattle.serve_config.proofs.Arrays.{left_from}
use Rattle.serve_config.proofs.walk.tenants_of.Given as goal

abbrev pub invariant-loop-value : goal.invariant-loop-value
invariant-loop-value l = record {
  same : left_from tenant_of l.tenants.items l.value-index l.values ≡ each_of tenant_of (items_view l.values);
  one_each : length l.tenants.items ≡ l.value-index;
  in_range : AllByRecursion IsTenantInRange l.tenants.items;
}
