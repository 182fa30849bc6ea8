-- Marks on blocks of 4096 bytes: which of them may have a byte that is not zero.
use Rattle.std.specs.Prelude.{ℕ, zero, suc, nat_eq, if◌then◌else◌, ◌≡◌, ◌+◌, ◌*◌, ◌/◌, ◌<◌, ◌≤◌, ◌++◌, Bool, true, false, List, length, drop, replicate, slice_index_or}
use Rattle.std.specs.List.{list_all}
use Rattle.wasm_meaning.specs.Bytes.{bytes_at}

-- a block without a mark has nothing but zeros
abbrev pub IsTold : (marks : List Bool) (bytes : List ℕ) → Type 0
IsTold marks bytes = (place : ℕ) → slice_index_or marks (place / 4096) true ≡ false → slice_index_or bytes place 0 ≡ 0

-- how many of the first blocks have a byte that is not zero
abbrev pub written : (blocks : ℕ) → (bytes : List ℕ) → ℕ
written zero bytes = 0
written (suc blocks) bytes = written blocks bytes + (if list_all (λ byte. nat_eq byte 0) (bytes_at bytes (blocks * 4096) 4096) then 0 else 1)

-- the blocks of so many bytes from a place on are marked, and no mark was taken away
pub record Covers (before after : List Bool) (at count : ℕ) : Type 0 where
  pub long : length after ≡ length before
  pub kept : (block : ℕ) → slice_index_or after block true ≡ false → slice_index_or before block true ≡ false
  pub set : (place : ℕ) → at ≤ place → place < at + count → slice_index_or after (place / 4096) true ≡ true

-- the list with its first so many items made blank
abbrev pub swept : {X : Type 0} → (count : ℕ) → (blank : X) → List X → List X
swept count blank items = replicate count blank ++ drop count items
