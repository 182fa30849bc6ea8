-- The spellings that the notes of section 5.2.2 of WebAssembly Core 1.0 call well formed and malformed.
use Rattle.std.proofs.Common.{◌≡◌, [], ◌∷◌, Ok, Err, refl}
use Rattle.wasm_ops.specs.declared.numbers.Sign.TheVariants.{Unsigned, Signed}
use Rattle.wasm_ops.specs.declared.numbers.LebFault.TheVariants.{CutShort, TooLong, SpareBits}
use Rattle.wasm_ops.specs.Numbers.{number_at}

-- 3 as u8
three : number_at Unsigned 8 (0x03 ∷ []) ≡ Ok (3, [])
three = refl

padded_three : number_at Unsigned 8 (0x83 ∷ 0x00 ∷ []) ≡ Ok (3, [])
padded_three = refl

spare_three : number_at Unsigned 8 (0x83 ∷ 0x10 ∷ []) ≡ Err SpareBits
spare_three = refl

-- -2 as s16
minus_two : number_at Signed 16 (0x7E ∷ []) ≡ Ok (0xFFFE, [])
minus_two = refl

padded_minus_two : number_at Signed 16 (0xFE ∷ 0x7F ∷ []) ≡ Ok (0xFFFE, [])
padded_minus_two = refl

longest_minus_two : number_at Signed 16 (0xFE ∷ 0xFF ∷ 0x7F ∷ []) ≡ Ok (0xFFFE, [])
longest_minus_two = refl

-- no s8
spare_s8 : number_at Signed 8 (0x83 ∷ 0x3E ∷ []) ≡ Err SpareBits
spare_s8 = refl

spare_negative_s8 : number_at Signed 8 (0xFF ∷ 0x7B ∷ []) ≡ Err SpareBits
spare_negative_s8 = refl

-- too long, and cut short
long_s8 : number_at Signed 8 (0xFF ∷ 0xFF ∷ 0x7F ∷ []) ≡ Err TooLong
long_s8 = refl

cut_s8 : number_at Signed 8 (0xFF ∷ []) ≡ Err CutShort
cut_s8 = refl
