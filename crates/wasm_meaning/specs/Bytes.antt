-- Numbers as bytes, the lowest first, and a linear memory as a list of bytes (WebAssembly Core 1.0, sections 4.2.8 and 4.3.1).
use Rattle.std.specs.Prelude.{ℕ, zero, suc, ◌+◌, ◌-◌, ◌*◌, ◌/◌, ◌%◌, ◌^◌, nat_lt, nat_le, Bool, if◌then◌else◌, List, [], ◌∷◌, ◌++◌, length, take, drop, replicate, Option, Some, None}

-- the number that these bytes are
abbrev pub number_of_bytes : List ℕ → ℕ
number_of_bytes [] = 0
number_of_bytes (byte ∷ bytes) = byte + 256 * number_of_bytes bytes

-- the number, modulo 256 ^ width, as so many bytes
abbrev pub bytes_of : (width : ℕ) → ℕ → List ℕ
bytes_of zero n = []
bytes_of (suc width) n = n % 256 ∷ bytes_of width (n / 256)

-- a page has so many bytes (section 4.2.8)
abbrev pub page : ℕ
page = 65536

abbrev pub zeros : ℕ → List ℕ
zeros count = replicate count 0

-- so many bytes from a place on lie within the memory; an address does not wrap
abbrev pub lies_in : (memory : List ℕ) (at count : ℕ) → Bool
lies_in memory at count = nat_le (at + count) (length memory)

abbrev pub bytes_at : (memory : List ℕ) (at count : ℕ) → List ℕ
bytes_at memory at count = take count (drop at memory)

-- the memory with these bytes from a place on, and else as it was
abbrev pub with_bytes : (memory : List ℕ) (at : ℕ) (bytes : List ℕ) → List ℕ
with_bytes memory at bytes = take at memory ++ (bytes ++ drop (at + length bytes) memory)

-- the number in so many bytes from a place on
abbrev pub loaded : (memory : List ℕ) (at width : ℕ) → Option ℕ
loaded memory at width = if lies_in memory at width then Some (number_of_bytes (bytes_at memory at width)) else None

-- the memory with a number in so many bytes from a place on
abbrev pub stored : (memory : List ℕ) (at width n : ℕ) → Option (List ℕ)
stored memory at width n = if lies_in memory at width then Some (with_bytes memory at (bytes_of width n)) else None

-- how many pages the memory has
abbrev pub size_of : (memory : List ℕ) → ℕ
size_of memory = length memory / page

-- the memory with so many pages more, unless these are more than the most
abbrev pub grown : (memory : List ℕ) (by most : ℕ) → Option (List ℕ)
grown memory by most = if nat_le (size_of memory + by) most then Some (memory ++ zeros (by * page)) else None

-- a number of few bits as one of many, with copies of its sign above it
abbrev pub sign_extended : (few many n : ℕ) → ℕ
sign_extended few many n = if nat_lt n (2 ^ (few - 1)) then n else n + 2 ^ many - 2 ^ few
