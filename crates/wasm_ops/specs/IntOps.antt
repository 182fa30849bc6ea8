-- Which bytes are integer operators (WebAssembly Core 1.0, section 5.4.5).
use Rattle.std.specs.Prelude.{ℕ, Bool, nat_le, ◌&&◌}
use Rattle.std.specs.Option.{is_some}
use Rattle.wasm_ops.specs.Operations.{operation_of}

-- the byte lies between these two, which are both meant
abbrev pub is_between : ℕ → ℕ → ℕ → Bool
is_between least most byte = nat_le least byte && nat_le byte most

-- the byte is that of an integer operator: the table of operations has a row for it
abbrev pub is_int_op : ℕ → Bool
is_int_op byte = is_some (operation_of byte)
