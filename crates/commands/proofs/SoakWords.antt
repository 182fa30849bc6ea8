-- The words of a `soak` ask for at most 4,096 requests.
use Rattle.std.proofs.Common.{◌≡◌, ℕ, ◌-◌, ◌≤◌, Bool, true, false, ◌^◌, if◌then◌else◌, nat_lt, List, [], ◌∷◌, Option, None, Some, option_map, codes, subst, refl, arith}
use Rattle.std.specs.Str.{bytes_eq}
use Rattle.std.specs.Str.Parse.{digits_value}
use Rattle.std.proofs.lemmas.Bool.Decides.{nat_tests}
use Rattle.commands.specs.CommandLine.{Asked, AsksSoak, AsksReplay, AsksInvoke, AsksCheck, AsksHelp, AsksVersion, SoakWords, is_decimal, within, number_within, soak_asked, soak_words, command_of}

not_above : (most n : ℕ) → nat_lt most n ≡ false → n ≤ most
not_above most n e = grind (arith, nat_tests)

-- ---- the number

value_few : (value n : ℕ) (low high : Bool) → nat_lt 4096 value ≡ high → (if low then None else (if high then None else Some value)) ≡ Some n → n ≤ 4096
value_few value n true high e is = absurd cc
value_few value n false true e is = absurd cc
value_few value n false false e is =
    let same : value ≡ n = cc in
    subst (λ (k : ℕ). k ≤ 4096) same (not_above 4096 value e)

number_few : (digits : List ℕ) (n : ℕ) (decimal : Bool) → (if decimal then within 1 4096 (digits_value 10 digits) else None) ≡ Some n → n ≤ 4096
number_few digits n true is = value_few (digits_value 10 digits) n (nat_lt (digits_value 10 digits) 1) (nat_lt 4096 (digits_value 10 digits)) refl is
number_few digits n false is = absurd cc

asked_few : (start count : Option ℕ) (s : SoakWords) → ((n : ℕ) → count ≡ Some n → n ≤ 4096) → soak_asked start count ≡ Some (AsksSoak s) → s.count ≤ 4096
asked_few None count s few is = absurd cc
asked_few (Some start) None s few is = absurd cc
asked_few (Some start) (Some count) s few is =
    let same : record { start = start; count = count } ≡ s = cc in
    subst (λ (t : SoakWords). t.count ≤ 4096) same (few count refl)

-- ---- the words, by how many there are

one_word : (s : SoakWords) (help version : Bool) → (if help then Some AsksHelp else (if version then Some AsksVersion else None)) ≡ Some (AsksSoak s) → s.count ≤ 4096
one_word s true version is = absurd cc
one_word s false true is = absurd cc
one_word s false false is = absurd cc

two : (s : SoakWords) (name : List ℕ) (check : Bool) → (if check then Some (AsksCheck name) else None) ≡ Some (AsksSoak s) → s.count ≤ 4096
two s name true is = absurd cc
two s name false is = absurd cc

three : (s : SoakWords) (first second : List ℕ) (replay soak : Bool) →
    (if replay then Some (AsksReplay (record { config_name = first; recording_name = second })) else (if soak then soak_words first second else None)) ≡ Some (AsksSoak s) →
    s.count ≤ 4096
three s first second true soak is = absurd cc
three s first second false true is =
    asked_few (number_within 0 (2 ^ 64 - 1) first) (number_within 1 4096 second) s (λ n e. number_few second n (is_decimal second) e) is
three s first second false false is = absurd cc

invoked : (s : SoakWords) (name body : List ℕ) (budget : Option ℕ) →
    option_map (λ n. AsksInvoke (record { module_name = name; body_name = body; budget = n })) budget ≡ Some (AsksSoak s) → s.count ≤ 4096
invoked s name body None is = absurd cc
invoked s name body (Some n) is = absurd cc

four : (s : SoakWords) (name body digits : List ℕ) (invoke : Bool) →
    (if invoke then option_map (λ n. AsksInvoke (record { module_name = name; body_name = body; budget = n })) (number_within 0 (2 ^ 40) digits) else None) ≡ Some (AsksSoak s) →
    s.count ≤ 4096
four s name body digits true is = invoked s name body (number_within 0 (2 ^ 40) digits) is
four s name body digits false is = absurd cc

pub soak_few : (words : List (List ℕ)) (s : SoakWords) → command_of words ≡ Some (AsksSoak s) → s.count ≤ 4096
soak_few [] s is = absurd cc
soak_few (w ∷ []) s is = one_word s (bytes_eq w (codes "--help")) (bytes_eq w (codes "--version")) is
soak_few (w ∷ name ∷ []) s is = two s name (bytes_eq w (codes "check")) is
soak_few (w ∷ first ∷ second ∷ []) s is = three s first second (bytes_eq w (codes "replay")) (bytes_eq w (codes "soak")) is
soak_few (w ∷ name ∷ body ∷ digits ∷ []) s is = four s name body digits (bytes_eq w (codes "invoke")) is
soak_few (a ∷ b ∷ c ∷ d ∷ e ∷ rest) s is = absurd cc
