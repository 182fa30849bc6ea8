-- In which calls bytes are handed to an output: in pieces of 65,536 bytes and a last shorter one, where no bytes are no call.
use Rattle.std.specs.Prelude.{◌≡◌, ◌≢◌, ◌⊎◌, ℕ, zero, suc, Bool, true, false, List, [], take, drop}

-- the most bytes of one call
abbrev pub piece_size : ℕ
piece_size = 65536

-- so many calls of an output took these bytes in order, each the next piece of them, up to the last
abbrev pub HandedBy : {S : Type 0} → (took : S → S → List ℕ → Bool → Type 0) → (calls : ℕ) → (bytes : List ℕ) → (old new : S) → Type 0
HandedBy took zero bytes old new = (bytes ≡ []) × (new ≡ old)
HandedBy {S} took (suc calls) bytes old new =
    (bytes ≢ []) × ((between : S) × took old between (take piece_size bytes) true × HandedBy took calls (drop piece_size bytes) between new)

-- so many calls did, and then the call with the next piece failed
abbrev pub CutBehind : {S : Type 0} → (took : S → S → List ℕ → Bool → Type 0) → (calls : ℕ) → (bytes : List ℕ) → (old new : S) → Type 0
CutBehind took zero bytes old new = (bytes ≢ []) × took old new (take piece_size bytes) false
CutBehind {S} took (suc calls) bytes old new =
    (between : S) × took old between (take piece_size bytes) true × CutBehind took calls (drop piece_size bytes) between new

-- these bytes were handed over
abbrev pub Handed : {S : Type 0} → (took : S → S → List ℕ → Bool → Type 0) → (bytes : List ℕ) → (old new : S) → Type 0
Handed took bytes old new = (calls : ℕ) × HandedBy took calls bytes old new

-- they were handed over up to a call that failed
abbrev pub Cut : {S : Type 0} → (took : S → S → List ℕ → Bool → Type 0) → (bytes : List ℕ) → (old new : S) → Type 0
Cut took bytes old new = (calls : ℕ) × CutBehind took calls bytes old new

-- the text was handed to one output, and then the note to another
abbrev pub HandedBoth
    : {S N : Type 0} → (took : S → S → List ℕ → Bool → Type 0) (noted : N → N → List ℕ → Bool → Type 0) → (text note : List ℕ) → (out out' : S) (notes notes' : N) → Type 0
HandedBoth took noted text note out out' notes notes' = Handed took text out out' × Handed noted note notes notes'

-- one of these calls failed, and no other was made behind it
abbrev pub CutOff
    : {S N : Type 0} → (took : S → S → List ℕ → Bool → Type 0) (noted : N → N → List ℕ → Bool → Type 0) → (text note : List ℕ) → (out out' : S) (notes notes' : N) → Type 0
CutOff took noted text note out out' notes notes' =
    (Cut took text out out' × (notes' ≡ notes)) ⊎ (Handed took text out out' × Cut noted note notes notes')
