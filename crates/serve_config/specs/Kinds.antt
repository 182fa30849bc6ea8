-- The kinds of values that keys ask for, each with its range: what a JSON value gives as one, or the refusal.
use Rattle.std.specs.Prelude.{ℕ, List, [], ◌∷◌, length, Bool, true, false, ◌&&◌, nat_lt, Option, Some, None, option_and_then, Result, Ok, Err, if◌then◌else◌, codes}
use Rattle.std.specs.Str.{bytes_eq}
use Rattle.std.specs.List.{list_any, list_all}
use Rattle.serde_json.specs.Data.{Data, Items, no_items, item, Members, no_members, member}
use Rattle.serde_json.specs.Events.{items_len}
use Rattle.serde_json.specs.Find.{get, as_number, as_u64, as_str, as_array, as_object}
use Rattle.run_queues.specs.declared.policies.Policy.{Policy}
use Rattle.run_queues.specs.declared.policies.Policy.TheVariants.{RoundRobin, EarliestDeadline}
use Rattle.serve_config.specs.declared.refusals.Refusal.{Refusal}
use Rattle.serve_config.specs.declared.refusals.Refusal.TheVariants.{UnknownKey, MissingKey, WrongKind, OutOfRange}
use Rattle.serve_config.specs.Steps.{go_on, or_refuse}
use Rattle.serve_config.specs.Letters.{is_name_byte}

-- the value, where its size is in the range
abbrev pub within : {A : Type 0} → (least most size : ℕ) → A → Result A Refusal
within least most size x = if nat_lt size least then Err OutOfRange else (if nat_lt most size then Err OutOfRange else Ok x)

-- a whole number; one with a minus sign, a fraction or an exponent is none, nor is one above 2^64 - 1
abbrev pub number : (least most : ℕ) → Data → Result ℕ Refusal
number least most d = go_on (or_refuse WrongKind (option_and_then as_u64 (as_number d))) (λ n. within least most n n)

-- a text of at least one byte
abbrev pub text : (most : ℕ) → Data → Result (List ℕ) Refusal
text most d = go_on (or_refuse WrongKind (as_str d)) (λ bytes. within 1 most (length bytes) bytes)

abbrev pub with_name_bytes : List ℕ → Result (List ℕ) Refusal
with_name_bytes bytes = if list_all is_name_byte bytes then Ok bytes else Err OutOfRange

-- a tenant's name
abbrev pub name : Data → Result (List ℕ) Refusal
name d = go_on (text 64 d) with_name_bytes

abbrev pub policy_named : List ℕ → Result Policy Refusal
policy_named bytes =
    if bytes_eq bytes (codes "rr") then Ok RoundRobin else (if bytes_eq bytes (codes "edf") then Ok EarliestDeadline else Err OutOfRange)

-- the text of a policy
abbrev pub policy : Data → Result Policy Refusal
policy d = go_on (or_refuse WrongKind (as_str d)) policy_named

-- what each item gives, in order
abbrev pub each_of : {A : Type 0} → (Data → Result A Refusal) → Items → Result (List A) Refusal
each_of of_one no_items = Ok []
each_of of_one (item d ds) = go_on (of_one d) (λ x. go_on (each_of of_one ds) (λ xs. Ok (x ∷ xs)))

-- an array of 1 to 64 items
abbrev pub array : Data → Result Items Refusal
array d = go_on (or_refuse WrongKind (as_array d)) (λ items. within 1 64 (items_len items) items)

-- an array of 1 to 64 items, and what each gives
abbrev pub array_of : {A : Type 0} → (Data → Result A Refusal) → Data → Result (List A) Refusal
array_of of_one d = go_on (array d) (each_of of_one)

-- ---- keys of an object

abbrev pub is_among : List (List ℕ) → List ℕ → Bool
is_among table key = list_any (λ known. bytes_eq key known) table

abbrev pub has_only : List (List ℕ) → Members → Bool
has_only table no_members = true
has_only table (member key d ms) = is_among table key && has_only table ms

-- an object, all of whose keys are in the table
abbrev pub object_of : List (List ℕ) → Data → Result (Unit {0}) Refusal
object_of table d = go_on (or_refuse WrongKind (as_object d)) (λ ms. if has_only table ms then Ok tt else Err UnknownKey)

-- the value at a key that has to be there
abbrev pub required : {A : Type 0} → List ℕ → (Data → Result A Refusal) → Data → Result A Refusal
required key kind d = go_on (or_refuse MissingKey (get key d)) kind

abbrev pub or_standard : {A : Type 0} → A → (Data → Result A Refusal) → Option Data → Result A Refusal
or_standard standard kind None = Ok standard
or_standard standard kind (Some found) = kind found

-- the value at a key that may be missing
abbrev pub optional : {A : Type 0} → List ℕ → A → (Data → Result A Refusal) → Data → Result A Refusal
optional key standard kind d = or_standard standard kind (get key d)
