-- Memory operators, at the memory's last byte and one past it, and at its limit of pages.
use Rattle.std.proofs.Common.{◌≡◌, ℕ, [], ◌∷◌, List, refl}
use Rattle.wasm_ops.specs.declared.operators.Op.{Op}
use Rattle.wasm_ops.specs.declared.operators.Op.TheVariants.{ConstI32, ConstI64, Load, Store, MemorySize, MemoryGrow}
use Rattle.wasm_ops.specs.declared.traps.Trap.TheVariants.{OutOfBounds}
use Rattle.wasm_ops.specs.declared.types.ValType.TheVariants.{I32, I64}
use Rattle.std.specs.Prelude.{true, false}
use Rattle.wasm_meaning.proofs.Examples.{Line, line, shown, run_in, inside, store_of, straight, memory_alone, each_paid}
use Rattle.wasm_meaning.proofs.Modules.{access}
use Rattle.wasm_meaning.specs.Bytes.{zeros, page}
use Rattle.wasm_meaning.specs.State.{Fell, Trapped, Stuck}
use Rattle.wasm_meaning.specs.Values.{Int32, Int64}

-- a memory of eight bytes
abbrev eight_bytes : List ℕ
eight_bytes = 1 ∷ 2 ∷ 3 ∷ 4 ∷ 5 ∷ 6 ∷ 255 ∷ 128 ∷ []

abbrev on_eight : List Op → Line
on_eight ops = shown (memory_alone 0) (inside (store_of eight_bytes [] []) [] []) 100 (straight ops)

abbrev left_in_eight : List Op → List ℕ
left_in_eight ops = (run_in (memory_alone 0) (inside (store_of eight_bytes [] []) [] []) 100 (straight ops)).state.store.memory

-- i32.load, the lowest byte first
loads : on_eight (ConstI32 1 ∷ Load (access I32 4 false) 0 0 ∷ []) ≡ line Fell (Int32 84148994 ∷ []) (each_paid 2)
loads = refl

-- i64.load of all bytes, by an offset
loads_all : on_eight (ConstI32 0 ∷ Load (access I64 8 false) 0 0 ∷ []) ≡ line Fell (Int64 9295154774527902209 ∷ []) (each_paid 2)
loads_all = refl

-- the last byte, with its sign and without
last_byte_signed : on_eight (ConstI32 3 ∷ Load (access I32 1 true) 0 4 ∷ []) ≡ line Fell (Int32 4294967168 ∷ []) (each_paid 2)
last_byte_signed = refl

last_byte_unsigned : on_eight (ConstI32 3 ∷ Load (access I64 1 false) 0 4 ∷ []) ≡ line Fell (Int64 128 ∷ []) (each_paid 2)
last_byte_unsigned = refl

last_two_bytes_signed : on_eight (ConstI32 6 ∷ Load (access I64 2 true) 0 0 ∷ []) ≡ line Fell (Int64 18446744073709519103 ∷ []) (each_paid 2)
last_two_bytes_signed = refl

-- one past the last byte; the address does not wrap
one_past : on_eight (ConstI32 5 ∷ Load (access I32 4 false) 0 0 ∷ []) ≡ line (Trapped OutOfBounds) (Int32 5 ∷ []) (each_paid 2)
one_past = refl

no_wrap : on_eight (ConstI32 4294967295 ∷ Load (access I32 1 false) 0 1 ∷ []) ≡ line (Trapped OutOfBounds) (Int32 4294967295 ∷ []) (each_paid 2)
no_wrap = refl

-- i32.store at the last place for it, and i64.store8 of the lowest byte alone
stores : left_in_eight (ConstI32 4 ∷ ConstI32 4294967041 ∷ Store (access I32 4 false) 0 0 ∷ []) ≡ 1 ∷ 2 ∷ 3 ∷ 4 ∷ 1 ∷ 255 ∷ 255 ∷ 255 ∷ []
stores = refl

stores_a_byte : left_in_eight (ConstI32 7 ∷ ConstI64 513 ∷ Store (access I64 1 false) 0 0 ∷ []) ≡ 1 ∷ 2 ∷ 3 ∷ 4 ∷ 5 ∷ 6 ∷ 255 ∷ 1 ∷ []
stores_a_byte = refl

stores_one_past : on_eight (ConstI32 5 ∷ ConstI32 0 ∷ Store (access I32 4 false) 0 0 ∷ []) ≡ line (Trapped OutOfBounds) (Int32 0 ∷ Int32 5 ∷ []) (each_paid 3)
stores_one_past = refl

stores_another_type : on_eight (ConstI32 0 ∷ ConstI64 0 ∷ Store (access I32 4 false) 0 0 ∷ []) ≡ line Stuck (Int64 0 ∷ Int32 0 ∷ []) (each_paid 3)
stores_another_type = refl

-- a memory of one page that may have two
abbrev on_a_page : List Op → Line
on_a_page ops = shown (memory_alone 2) (inside (store_of (zeros page) [] []) [] []) 100 (straight ops)

grows_to_the_limit : on_a_page (ConstI32 1 ∷ MemoryGrow ∷ MemorySize ∷ []) ≡ line Fell (Int32 2 ∷ Int32 1 ∷ []) (each_paid 3)
grows_to_the_limit = refl

grows_past_it : on_a_page (ConstI32 2 ∷ MemoryGrow ∷ MemorySize ∷ []) ≡ line Fell (Int32 1 ∷ Int32 4294967295 ∷ []) (each_paid 3)
grows_past_it = refl

grows_by_nothing : on_a_page (ConstI32 0 ∷ MemoryGrow ∷ []) ≡ line Fell (Int32 1 ∷ []) (each_paid 2)
grows_by_nothing = refl

last_of_a_page
    : on_a_page (ConstI32 65535 ∷ ConstI32 7 ∷ Store (access I32 1 false) 0 0 ∷ ConstI32 65532 ∷ Load (access I32 4 false) 0 0 ∷ [])
    ≡ line Fell (Int32 117440512 ∷ []) (each_paid 5)
last_of_a_page = refl

one_past_a_page : on_a_page (ConstI32 65533 ∷ Load (access I32 4 false) 0 0 ∷ []) ≡ line (Trapped OutOfBounds) (Int32 65533 ∷ []) (each_paid 2)
one_past_a_page = refl
