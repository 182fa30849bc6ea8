-- Which rows of the table of operators take one operand, which take two, and that no other byte has such an operator.
use Rattle.std.proofs.Common.{◌≡◌, ℕ, ◌==◌, nat_lt, Bool, true, false, [], ◌∷◌, Option, Some, None, option_map, if◌then◌else◌, refl}
use Rattle.wasm_ops.specs.declared.operations.Operation.{Operation}
use Rattle.wasm_ops.specs.Operations.{Rows, look_up, operation_of, takes_one, i32_comparisons, i64_comparisons, i32_computations, i64_computations, conversions}

-- a row before others, unless it takes the other number of operands
abbrev pub kept : (one takes : Bool) → ℕ × Operation → Rows → Rows
kept true true row rows = row ∷ rows
kept true false row rows = rows
kept false true row rows = rows
kept false false row rows = row ∷ rows

-- the rows that take one operand; those that take two
abbrev pub rows_of : (one : Bool) → Rows → Rows
rows_of one [] = []
rows_of one (row ∷ rows) = kept one (takes_one row.1) row (rows_of one rows)

-- what is found takes one operand; it takes two
abbrev Takes : (one : Bool) → Option Operation → Type 0
Takes one found = option_map takes_one found ≡ Some one

not_here : (same : Bool) (o : Operation) (rest : Option Operation) → (if same then Some o else rest) ≡ None → (same ≡ false) × (rest ≡ None)
not_here true o rest e = let bad : ⊥ = cc in absurd bad
not_here false o rest e = (refl, e)

not_this
    : (one takes : Bool) (row : ℕ × Operation) (rows : Rows) (byte : ℕ) → takes_one row.1 ≡ takes
    → (look_up (rows_of one rows) byte ≡ None → Takes one (look_up rows byte) → ⊥)
    → look_up (kept one takes row (rows_of one rows)) byte ≡ None
    → (same : Bool) → (byte == row.0) ≡ same → Takes one (if same then Some row.1 else look_up rows byte) → ⊥
not_this true true row rows byte is further none true e found = let n = (not_here (byte == row.0) row.1 (look_up (rows_of true rows) byte) none).0 in cc
not_this true false row rows byte is further none true e found = cc
not_this false true row rows byte is further none true e found = cc
not_this false false row rows byte is further none true e found = let n = (not_here (byte == row.0) row.1 (look_up (rows_of false rows) byte) none).0 in cc
not_this true true row rows byte is further none false e found = further (not_here (byte == row.0) row.1 (look_up (rows_of true rows) byte) none).1 found
not_this true false row rows byte is further none false e found = further none found
not_this false true row rows byte is further none false e found = further none found
not_this false false row rows byte is further none false e found = further (not_here (byte == row.0) row.1 (look_up (rows_of false rows) byte) none).1 found

none_of : (one : Bool) (rows : Rows) (byte : ℕ) → look_up (rows_of one rows) byte ≡ None → Takes one (look_up rows byte) → ⊥
none_of one [] byte none found = cc
none_of one (row ∷ rows) byte none found =
    not_this one (takes_one row.1) row rows byte refl (none_of one rows byte) none (byte == row.0) refl found

none_chosen
    : (one : Bool) (first second third fourth : Bool) (v w x y z : Option Operation)
    → (Takes one v → ⊥) → (Takes one w → ⊥) → (Takes one x → ⊥) → (Takes one y → ⊥) → (Takes one z → ⊥)
    → Takes one (if first then v else (if second then w else (if third then x else (if fourth then y else z)))) → ⊥
none_chosen one true second third fourth v w x y z no_v no_w no_x no_y no_z found = no_v found
none_chosen one false true third fourth v w x y z no_v no_w no_x no_y no_z found = no_w found
none_chosen one false false true fourth v w x y z no_v no_w no_x no_y no_z found = no_x found
none_chosen one false false false true v w x y z no_v no_w no_x no_y no_z found = no_y found
none_chosen one false false false false v w x y z no_v no_w no_x no_y no_z found = no_z found

-- a byte of none of these rows has no operator with this number of operands
pub none_takes
    : (one : Bool) (byte : ℕ)
    → look_up (rows_of one i32_comparisons) byte ≡ None → look_up (rows_of one i64_comparisons) byte ≡ None
    → look_up (rows_of one i32_computations) byte ≡ None → look_up (rows_of one i64_computations) byte ≡ None
    → look_up (rows_of one conversions) byte ≡ None → option_map takes_one (operation_of byte) ≡ Some one → ⊥
none_takes one byte v w x y z found =
    none_chosen one (nat_lt byte 0x50) (nat_lt byte 0x67) (nat_lt byte 0x79) (nat_lt byte 0xA7)
    (look_up i32_comparisons byte) (look_up i64_comparisons byte) (look_up i32_computations byte) (look_up i64_computations byte) (look_up conversions byte)
    (none_of one i32_comparisons byte v) (none_of one i64_comparisons byte w) (none_of one i32_computations byte x)
    (none_of one i64_computations byte y) (none_of one conversions byte z) found
