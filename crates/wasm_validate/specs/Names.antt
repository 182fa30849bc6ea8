-- The names of exports, and which export is the first that has the name of one before it.
use Rattle.std.specs.Prelude.{◌≡◌, ℕ, ◌+◌, ◌<◌, ◌≤◌, ◌*◌, ◌%◌, ◌^◌, true, false, Bool, Option, None, Some, List, length, take, bit_xor, slice_index_or, nat_eq, bytes_eq, ◌&&◌}
use Rattle.std.specs.List.{fold}
use Rattle.wasm_ops.specs.declared.modules.Export.{Export}
use Rattle.wasm_meaning.specs.Validity.{is_used}
use Rattle.wasm_validate.specs.declared.exports.Key.{Key}

-- a number of 64 bits for a name: the hash FNV-1a
abbrev pub fingerprint_of : (name : List ℕ) → ℕ
fingerprint_of name = fold (λ number byte. bit_xor number byte * 1099511628211 % 2 ^ 64) 14695981039346656037 name

-- the key of the export at this place
pub record IsKey (e : Export) (at : ℕ) (key : Key) : Type 0 where
  pub number : key.number ≡ fingerprint_of e.name
  pub name : key.name.now ≡ e.name
  pub place : key.place ≡ at

-- the keys of all exports, in their order
pub record AreKeys (exports : List Export) (keys : List Key) : Type 0 where
  pub all : length keys ≡ length exports
  pub each : (i : ℕ) (e : Export) (d : Key) → i < length exports → IsKey (slice_index_or exports i e) i (slice_index_or keys i d)

-- two keys have one name
abbrev pub are_twins : Key → Key → Bool
are_twins x y = nat_eq x.number y.number && bytes_eq x.name.now y.name.now

-- the export at this place has the name of one before it, or not
abbrev pub IsUsedAt : List Export → ℕ → Bool → Type 0
IsUsedAt exports i used = (e : Export) → is_used (take i exports) (slice_index_or exports i e).name ≡ used

-- the first place whose export has the name of one before it, if there is one
abbrev pub IsFirstUsed : List Export → Option ℕ → Type 0
IsFirstUsed exports None = (i : ℕ) → i < length exports → IsUsedAt exports i false
IsFirstUsed exports (Some first) = (first < length exports) × IsUsedAt exports first true × ((i : ℕ) → i < first → IsUsedAt exports i false)

-- of the first n keys: the least place in the second of two that stand beside each other and have one name, if there are such
abbrev pub IsLeastTwinBelow : (n : ℕ) → List Key → Option ℕ → Type 0
IsLeastTwinBelow n keys None = (k : ℕ) (d : Key) → k + 1 < n → are_twins (slice_index_or keys k d) (slice_index_or keys (k + 1) d) ≡ false
IsLeastTwinBelow n keys (Some least) =
    ((k : ℕ) × (k + 1 < n) × ((d : Key) → (are_twins (slice_index_or keys k d) (slice_index_or keys (k + 1) d) ≡ true) × ((slice_index_or keys (k + 1) d).place ≡ least)))
    × ((k : ℕ) (d : Key) → k + 1 < n → are_twins (slice_index_or keys k d) (slice_index_or keys (k + 1) d) ≡ true → least ≤ (slice_index_or keys (k + 1) d).place)

abbrev pub IsLeastTwin : List Key → Option ℕ → Type 0
IsLeastTwin keys = IsLeastTwinBelow (length keys) keys
