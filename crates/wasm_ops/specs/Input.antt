-- What a cursor has before it, and how a call takes from it (WebAssembly Core 1.0, section 5.2).
use Rattle.std.specs.Prelude.{◌≡◌, ◌⊎◌, ℕ, ◌+◌, nat_le, if◌then◌else◌, List, [], ◌∷◌, length, take, drop, Result, Ok, Err, MatchResult}
use Rattle.wasm_ops.specs.declared.faults.Fault.{Fault}
use Rattle.wasm_ops.specs.declared.faults.Refusal.{Refusal}
use Rattle.wasm_ops.specs.Refusals.{fault_at}

-- the place of the next byte, the bytes from there to the end of the window, and as what it is refused that the window ends within an item
pub record Input : Type 0 where
  pub at : ℕ
  pub left : List ℕ
  pub cut : Refusal

-- the place behind the window
abbrev pub end_of : Input → ℕ
end_of input = input.at + length input.left

-- what a call answers, where the definition says what is read and what is left behind it: a refusal leaves all as it was
abbrev pub Takes : {A : Type 0} → Result (A × Input) Fault → Result A Fault → (before after : Input) → Type 0
Takes taken result before after = MatchResult result (λ x. taken ≡ Ok (x, after)) (λ fault. (taken ≡ Err fault) × (after ≡ before))

-- of what lies ahead one of the two holds, in one way: something is read, or all is refused with a fault
pub record IsDecided (A : Type 0) (Reads : A → Input → Type 0) (Refuses : Fault → Type 0) : Type 0 where
  pub one_holds : ((x : A) × (there : Input) × Reads x there) ⊎ ((fault : Fault) × Refuses fault)
  pub never_both : (x : A) (there : Input) (fault : Fault) → Reads x there → Refuses fault → ⊥
  pub one_value : (x y : A) (there here : Input) → Reads x there → Reads y here → (x ≡ y) × (there ≡ here)
  pub one_fault : (f g : Fault) → Refuses f → Refuses g → f ≡ g

-- the window ends within an item
abbrev pub cut_short : Input → Fault
cut_short input = fault_at input.cut (end_of input)

-- the next byte
abbrev pub byte_of : (at : ℕ) → List ℕ → (cut : Refusal) → Result (ℕ × Input) Fault
byte_of at [] cut = Err (cut_short (record { at = at; left = []; cut = cut }))
byte_of at (byte ∷ left) cut = Ok (byte, record { at = at + 1; left = left; cut = cut })

abbrev pub byte_from : Input → Result (ℕ × Input) Fault
byte_from input = byte_of input.at input.left input.cut

-- the next bytes, so many of them
abbrev pub bytes_from : (count : ℕ) → Input → Result (List ℕ × Input) Fault
bytes_from count input =
    if nat_le count (length input.left)
    then Ok (take count input.left, record { at = input.at + count; left = drop count input.left; cut = input.cut })
    else Err (cut_short input)

-- the same as a window of their own, with the places that they have
abbrev pub window_at : (cut : Refusal) → Input → List ℕ → Input
window_at cut input bytes = record { at = input.at; left = bytes; cut = cut }

abbrev pub as_window : (cut : Refusal) → Input → Result (List ℕ × Input) Fault → Result (Input × Input) Fault
as_window cut input (Ok read) = Ok (window_at cut input read.0, read.1)
as_window cut input (Err fault) = Err fault

abbrev pub window_from : (count : ℕ) → (cut : Refusal) → Input → Result (Input × Input) Fault
window_from count cut input = as_window cut input (bytes_from count input)
