-- How things of a kind are spelt, and what refuses bytes as one of them: what the binary format is put together from (WebAssembly Core 1.0, sections 5.1 and 5.2).
use Rattle.std.specs.Prelude.{◌≡◌, ◌⊎◌, ℕ, suc, zero, ◌+◌, ◌<◌, nat_lt, if◌then◌else◌, List, [], ◌∷◌, ◌++◌, length, Option, Some, None, Ok, Err}
use Rattle.wasm_ops.specs.declared.faults.Fault.{Fault}
use Rattle.wasm_ops.specs.declared.faults.Refusal.{Refusal}
use Rattle.wasm_ops.specs.declared.faults.Refusal.TheVariants.{TooLarge}
use Rattle.wasm_ops.specs.declared.numbers.Sign.{Sign}
use Rattle.wasm_ops.specs.declared.numbers.Sign.TheVariants.{Unsigned}
use Rattle.wasm_ops.specs.Refusals.{fault_at}
use Rattle.wasm_ops.specs.Input.{Input, cut_short, byte_from, bytes_from, window_at}
use Rattle.wasm_ops.specs.NumberInput.{ReadsNumber, RefusesNumber, number_from}
use Rattle.wasm_code.specs.Reading.{Read, and_then, as_part, ReadsByte, LacksByte}

-- which things are spelt from one place to another, and with which fault the bytes at a place are refused where none is spelt there; `read` says the same as a function
pub record Syntax (A : Type 0) : Type 1 where
  pub Reads : (before : Input) (x : A) (after : Input) → Type 0
  pub Refuses : (before : Input) (fault : Fault) → Type 0
  pub read : Input → Read A

-- a byte
abbrev pub byte : Syntax ℕ
byte = record { Reads = ReadsByte; Refuses = LacksByte; read = byte_from }

-- a number of so many bits
abbrev pub integer : Sign → (bits : ℕ) → Syntax ℕ
integer sign bits = record { Reads = ReadsNumber sign bits; Refuses = RefusesNumber sign bits; read = number_from sign bits }

-- a count, a size or an index
abbrev pub number : Syntax ℕ
number = integer Unsigned 32

-- so many bytes, whatever they are
pub record ReadsBytes (count : ℕ) (before : Input) (bytes : List ℕ) (after : Input) : Type 0 where
  pub cut : before.left ≡ bytes ++ after.left
  pub all : length bytes ≡ count
  pub behind : after.at ≡ before.at + count
  pub same_cut : after.cut ≡ before.cut

-- fewer are left
pub record LacksBytes (count : ℕ) (before : Input) (fault : Fault) : Type 0 where
  pub fewer : length before.left < count
  pub told : fault ≡ cut_short before

abbrev pub bytes : (count : ℕ) → Syntax (List ℕ)
bytes count = record { Reads = ReadsBytes count; Refuses = LacksBytes count; read = bytes_from count }

-- this, spelt by no byte at all
abbrev pub pure : {A : Type 0} → A → Syntax A
pure x = record {
  Reads = λ before y after. (y ≡ x) × (after ≡ before);
  Refuses = λ before fault. ⊥;
  read = λ before. Ok (x, before);
}

-- one thing, and behind it another that may depend on it
infixr 10 ◌⨾◌
abbrev pub ◌⨾◌ : {A B : Type 0} → Syntax A → (A → Syntax B) → Syntax B
first ⨾ next = record {
  Reads = λ before y after. (x : _) × (there : Input) × first.Reads before x there × (next x).Reads there y after;
  Refuses = λ before fault. first.Refuses before fault ⊎ ((x : _) × (there : Input) × first.Reads before x there × (next x).Refuses there fault);
  read = λ before. and_then (first.read before) (λ x there. (next x).read there);
}

-- the same things, seen otherwise
abbrev pub map : {A B : Type 0} → (A → B) → Syntax A → Syntax B
map view syntax_of = record {
  Reads = λ before y after. (x : _) × syntax_of.Reads before x after × (y ≡ view x);
  Refuses = λ before fault. syntax_of.Refuses before fault;
  read = λ before. as_part view (syntax_of.read before);
}

-- a thing that is what a test makes of it; where the test finds none, this fault at the thing's first byte
abbrev pub known : {A : Type 0} → Option A → Fault → Input → Read A
known (Some y) fault after = Ok (y, after)
known None fault after = Err fault

abbrev pub checked : {A B : Type 0} → (test : A → Option B) → (fault : (at : ℕ) → A → Fault) → Syntax A → Syntax B
checked test fault syntax_of = record {
  Reads = λ before y after. (x : _) × syntax_of.Reads before x after × (test x ≡ Some y);
  Refuses = λ before f.
      syntax_of.Refuses before f
      ⊎ ((x : _) × (there : Input) × syntax_of.Reads before x there × (test x ≡ None) × (f ≡ fault before.at x));
  read = λ before. and_then (syntax_of.read before) (λ x there. known (test x) (fault before.at x) there);
}

-- the same, whatever the thing is
abbrev pub or_fault : {A : Type 0} → (why : Refusal) → (at : ℕ) → A → Fault
or_fault why at x = fault_at why at

-- things, one behind another: each may depend on those before it
abbrev pub ReadsItems
    : {A : Type 0} → (item : List A → Syntax A) → (so_far : List A) → (more : List A) → (before after : Input) → Type 0
ReadsItems item so_far [] before after = after ≡ before
ReadsItems item so_far (x ∷ more) before after =
    (there : Input) × (item so_far).Reads before x there × ReadsItems item (so_far ++ x ∷ []) more there after

-- the same as a function, behind those before them
abbrev pub items_from : {A : Type 0} → (count : ℕ) → (item : List A → Syntax A) → (so_far : List A) → Input → Read (List A)
items_from zero item so_far before = Ok (so_far, before)
items_from (suc count) item so_far before =
    and_then ((item so_far).read before) (λ x there. items_from count item (so_far ++ x ∷ []) there)

-- so many things, of which the first that is refused has the fault
abbrev pub items : {A : Type 0} → (count : ℕ) → (item : List A → Syntax A) → Syntax (List A)
items count item = record {
  Reads = λ before xs after. (length xs ≡ count) × ReadsItems item [] xs before after;
  Refuses = λ before fault.
      (xs : List _) × (there : Input) × (length xs < count) × ReadsItems item [] xs before there × (item xs).Refuses there fault;
  read = items_from count item [];
}

-- a count of things, which with those before them are no more than `most`
abbrev pub within_limit : (before most count : ℕ) → Option ℕ
within_limit before most count = if nat_lt most (before + count) then None else Some count

abbrev pub limited : (before most : ℕ) → Syntax ℕ
limited before most = checked (within_limit before most) (or_fault TooLarge) number

-- a vector (section 5.1.3): a count, and so many things
abbrev pub vector_of : {A : Type 0} → (counted : Syntax ℕ) → (item : List A → Syntax A) → Syntax (List A)
vector_of counted item = counted ⨾ λ count. items count item

-- a vector of things of one kind
abbrev pub vector : {A : Type 0} → Syntax A → Syntax (List A)
vector item = vector_of number (λ so_far. item)

-- a vector of at most so many things, with those before them
abbrev pub vector_within : {A : Type 0} → (before most : ℕ) → Syntax A → Syntax (List A)
vector_within before most item = vector_of (limited before most) (λ so_far. item)

-- what is known behind things, one after another
abbrev pub kept : {S A : Type 0} → (after : S → A → S) → S → List A → S
kept after s [] = s
kept after s (x ∷ xs) = kept after (after s x) xs

-- a thing in a window of so many bytes, which have the places that they have; it may leave some of them over. What passes the window's end is refused as `cut`
abbrev pub left_at : {A : Type 0} → (after : Input) → Read A → Read A
left_at after (Ok read) = Ok (read.0, after)
left_at after (Err fault) = Err fault

abbrev pub inside : {A : Type 0} → (count : ℕ) → (cut : Refusal) → Syntax A → Syntax A
inside count cut syntax_of = record {
  Reads = λ before x after.
      (held : List ℕ) × (end : Input) × ReadsBytes count before held after × syntax_of.Reads (window_at cut before held) x end;
  Refuses = λ before fault.
      LacksBytes count before fault
      ⊎ ((held : List ℕ) × (after : Input) × ReadsBytes count before held after × syntax_of.Refuses (window_at cut before held) fault);
  read = λ before. and_then (bytes_from count before) (λ held after. left_at after (syntax_of.read (window_at cut before held)));
}

-- a thing up to the end of the window; else this refusal at the first byte that is left over
abbrev pub up_to_end : {A : Type 0} → (why : Refusal) → A → (after : Input) → (left : List ℕ) → Read A
up_to_end why x after [] = Ok (x, after)
up_to_end why x after (next ∷ rest) = Err (fault_at why after.at)

abbrev pub exactly : {A : Type 0} → (why : Refusal) → Syntax A → Syntax A
exactly why syntax_of = record {
  Reads = λ before x after. syntax_of.Reads before x after × (after.left ≡ []);
  Refuses = λ before fault.
      syntax_of.Refuses before fault
      ⊎ ((x : _) × (there : Input) × syntax_of.Reads before x there × (next : ℕ) × (rest : List ℕ) × (there.left ≡ next ∷ rest) × (fault ≡ fault_at why there.at));
  read = λ before. and_then (syntax_of.read before) (λ x there. up_to_end why x there there.left);
}

-- steps from one state to another, so many of them
abbrev pub ReadsSteps : {A : Type 0} → (step : A → Syntax A) → (count : ℕ) → (x : A) (before : Input) (y : A) (after : Input) → Type 0
ReadsSteps step zero x before y after = (y ≡ x) × (after ≡ before)
ReadsSteps step (suc count) x before y after =
    (z : _) × (there : Input) × (step x).Reads before z there × ReadsSteps step count z there y after

-- the same as a function, which takes no more than so many steps
abbrev pub goes_on : {A : Type 0} → (left : List ℕ) → (x : A) → Input → Read A → Read A
goes_on [] x before read = Ok (x, before)
goes_on (next ∷ rest) x before read = read

abbrev pub steps_from : {A : Type 0} → (bound : ℕ) → (step : A → Syntax A) → (x : A) → Input → Read A
steps_from zero step x before = Ok (x, before)
steps_from (suc bound) step x before =
    goes_on before.left x before (and_then ((step x).read before) (λ y there. steps_from bound step y there))

-- steps up to the end of the window, as many as there are
abbrev pub to_end : {A : Type 0} → (step : A → Syntax A) → A → Syntax A
to_end step x = record {
  Reads = λ before y after. (count : ℕ) × ReadsSteps step count x before y after × (after.left ≡ []);
  Refuses = λ before fault.
      (count : ℕ) × (y : _) × (there : Input) × ReadsSteps step count x before y there
      × (next : ℕ) × (rest : List ℕ) × (there.left ≡ next ∷ rest) × (step y).Refuses there fault;
  read = λ before. steps_from (length before.left) step x before;
}
