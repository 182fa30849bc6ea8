-- Keys and items as contracts see them are those of the map and the array.
use Rattle.std.proofs.Common.{◌≡◌, List, [], ◌∷◌, ◌&&◌, length, Bool, refl, ap}
use Rattle.std.specs.Prelude.{ℕ, String, string_bytes}
use Rattle.std.specs.List.{list_all}
use Rattle.std.specs.Map.{keys_of}
use Rattle.std.specs.declared.alloc.Global.{Global}
use Rattle.serde_json.specs.declared.value.Value.{Value}
use Rattle.serde_json.specs.Events.{items_len}
use Rattle.serde_json.specs.View.{items_view, members_view}
use Rattle.serde_json.proofs.Views.{items_len-items_view}
use Rattle.serve_config.specs.Kinds.{has_only, is_among}

pub has_only_is : (table : List (List ℕ)) (ms : List (String Global × Value)) → has_only table (members_view ms) ≡ list_all (λ key. is_among table (string_bytes key)) (keys_of ms)
has_only_is table [] = refl
has_only_is table (m ∷ ms) = ap (λ (b : Bool). is_among table (string_bytes m.0) && b) (has_only_is table ms)

pub items_counted : (vs : List Value) → items_len (items_view vs) ≡ length vs
items_counted vs = items_len-items_view vs
