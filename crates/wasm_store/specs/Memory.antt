-- A linear memory as a list of bytes, in a strip that may be longer (WebAssembly Core 1.0, section 4.2.8).
use Rattle.std.specs.Prelude.{ℕ, ◌≡◌, ◌-◌, ◌*◌, ◌≤◌, ◌⊎◌, ◌++◌, if◌then◌else◌, List, length, take, drop, Option, Some, None}
use Rattle.wasm_meaning.specs.Bytes.{page, zeros, lies_in, with_bytes}

-- the bytes in use, and how many pages the strip behind them has
pub record Memory : Type 0 where
  pub bytes : List ℕ
  pub pages : ℕ

-- the bytes of a room that are laid down, from its beginning on, and how many pages it has
pub record Laid : Type 0 where
  pub bytes : List ℕ
  pub pages : ℕ

-- the strip that a room stands for: what was never laid down is zero
abbrev pub strip_of : Laid → List ℕ
strip_of room = room.bytes ++ zeros (room.pages * page - length room.bytes)

-- the first so many bytes of a room, as a memory
abbrev pub memory_of : (used : ℕ) (room : Laid) → Memory
memory_of used room = record { bytes = take used room.bytes; pages = room.pages }

-- what is in use is laid down, and what else is laid down is zero, so that a memory may grow into it and is clean as soon as the part in use is
pub record IsHeld (used : ℕ) (room : Laid) : Type 0 where
  pub within : used ≤ length room.bytes
  pub clear : drop used room.bytes ≡ zeros (length room.bytes - used)
  pub fits : length room.bytes ≤ room.pages * page
  pub small : room.pages ≤ 16384

-- a load or a store is of so many bytes
abbrev pub IsWidth : ℕ → Type 0
IsWidth width = (width ≡ 1) ⊎ (width ≡ 2) ⊎ (width ≡ 4) ⊎ (width ≡ 8)

-- the memory with these bytes from a place on, where they lie within it
abbrev pub laid : (memory : List ℕ) (at : ℕ) (bytes : List ℕ) → Option (List ℕ)
laid memory at bytes = if lies_in memory at (length bytes) then Some (with_bytes memory at bytes) else None
