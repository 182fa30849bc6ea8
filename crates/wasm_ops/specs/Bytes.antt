-- Numbers that are bytes (WebAssembly Core 1.0, section 2.2.1).
use Rattle.std.specs.Prelude.{ℕ, ◌^◌, ◌<◌, List}
use Rattle.std.specs.List.{AllByRecursion}

-- each of the numbers is a byte
abbrev pub AreBytes : List ℕ → Type 0
AreBytes bytes = AllByRecursion (λ byte. byte < 2 ^ 8) bytes
