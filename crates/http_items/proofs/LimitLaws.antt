-- Items are within their limits: a body has no more bytes than a head may announce, and a refusal has a number from 1 to 8.
use Rattle.std.proofs.Common.{◌≡◌, ℕ, zero, suc, ◌≤◌, Bool, true, false, List, [], length, take, drop, Option, Some, None, Result, Ok, Err, if◌then◌else◌, nat_le, codes, refl, arith, length-take}
use Rattle.std.specs.Str.Parse.{digits_value}
use Rattle.std.specs.List.{AllByRecursion}
use Rattle.std.proofs.lemmas.Bool.{leb-true}
use Rattle.httparse.specs.Grammar.{RequestHead}
use Rattle.http_items.specs.declared.methods.Method.{Method}
use Rattle.http_items.specs.declared.refusals.Refusal.{Refusal}
use Rattle.http_items.specs.declared.refusals.Refusal.TheVariants.{BadHead, BadHost, TransferCoding, BadLength, TooLarge, CutBody}
use Rattle.http_items.specs.Refusals.{number_of}
use Rattle.http_items.specs.Targets.{path_of}
use Rattle.http_items.specs.Heads.{head_in, most_head}
use Rattle.http_items.specs.Headings.{Heading, heading_of, Due, Serve, Refuse, due_to_head, Opening, Refused, Awaits, Occurrence, Missing, Once, Repeated, most_body, size_within, told_size, size_of, has_host, named, is_missing, is_number, body_size, opening_with, opening_of, due_by_method, due_by_path, due_of, method_of}
use Rattle.http_items.specs.Items.{Heard, Faulty, keeps, heard, Front, Nothing, Gives, are_pairs, no_head, gathered, opened, front_with, front, onward, items_upto, items, IsWithin}

either : {A : Type 0} (P : A → Type 0) (b : Bool) (x y : A) → P x → P y → P (if b then x else y)
either P true x y p q = p
either P false x y p q = q

-- the refusals that bytes have
abbrev IsOfBytes : Refusal → Type 0
IsOfBytes refusal = (1 ≤ number_of refusal) × (number_of refusal ≤ 8)

-- ---- what a head comes to

abbrev IsDueWithin : Due → Type 0
IsDueWithin (Serve method path keep) = Unit {0}
IsDueWithin (Refuse refusal head keep) = IsOfBytes refusal

due_with_method : (m : Option Method) (path : List ℕ) (g : Heading) → IsDueWithin (due_by_method m path g)
due_with_method None path g = (omega arith, omega arith)
due_with_method (Some m) path g = tt

due_with_path : (path : Option (List ℕ)) (g : Heading) → IsDueWithin (due_by_path path g)
due_with_path None g = (omega arith, omega arith)
due_with_path (Some path) g = due_with_method (method_of g.method) path g

due_within : (g : Heading) → IsDueWithin (due_of g)
due_within g = due_with_path (path_of g.target) g

-- ---- the item in front of bytes

abbrev FrontWithin : Front → Type 0
FrontWithin Nothing = Unit {0}
FrontWithin (Gives item rest) = IsWithin item

no_head_within : (text : List ℕ) (ended : Bool) → FrontWithin (no_head text ended)
no_head_within text ended =
    let refused : Front = Gives (Faulty (number_of BadHead) false false) [] in
    either FrontWithin (nat_le most_head (length text)) refused (if ended then (if are_pairs text then Nothing else refused) else Nothing)
    (omega arith, omega arith)
    (either FrontWithin ended (if are_pairs text then Nothing else refused) Nothing (either FrontWithin (are_pairs text) Nothing refused tt (omega arith, omega arith)) tt)

heard_within : (due : Due) (body : List ℕ) → IsDueWithin due → length body ≤ most_body → IsWithin (heard due body)
heard_within (Serve method path keep) body within le = le
heard_within (Refuse refusal head keep) body within le = within

gathered_within : (due : Due) (size : ℕ) (text : List ℕ) (ended : Bool) → IsDueWithin due → size ≤ most_body → FrontWithin (gathered due size text ended)
gathered_within due size text ended within le =
    let cut : Front = Gives (Faulty (number_of CutBody) (due_to_head due) false) [] in
    either FrontWithin (nat_le size (length text)) (Gives (heard due (take size text)) (drop size text)) (if ended then cut else Nothing)
    (heard_within due (take size text) within (omega (arith, length-take size text, le)))
    (either FrontWithin ended cut Nothing (omega arith, omega arith) tt)

-- ---- the size that a head announces

abbrev SizeWithin : Result ℕ Refusal → Type 0
SizeWithin (Ok size) = size ≤ most_body
SizeWithin (Err refusal) = IsOfBytes refusal

size_fits : (size : ℕ) → SizeWithin (size_within size)
size_fits size = by (nat_le size most_body) refl
  where
    by : (b : Bool) → nat_le size most_body ≡ b → SizeWithin (if b then Ok size else Err TooLarge)
    by true e = leb-true size most_body e
    by false e = (omega arith, omega arith)

told_fits : (value : List ℕ) → SizeWithin (told_size value)
told_fits value = either SizeWithin (is_number value) (size_within (digits_value 10 value)) (Err BadLength) (size_fits (digits_value 10 value)) (omega arith, omega arith)

size_of_fits : (lines : Occurrence) → SizeWithin (size_of lines)
size_of_fits Missing = omega arith
size_of_fits (Once value) = told_fits value
size_of_fits Repeated = (omega arith, omega arith)

body_fits : (g : Heading) → SizeWithin (body_size g)
body_fits g =
    let size = size_of (named (codes "content-length") g.lines) in
    either SizeWithin (has_host g) (if is_missing (named (codes "transfer-encoding") g.lines) then size else Err TransferCoding) (Err BadHost)
    (either SizeWithin (is_missing (named (codes "transfer-encoding") g.lines)) size (Err TransferCoding) (size_of_fits (named (codes "content-length") g.lines)) (omega arith, omega arith))
    (omega arith, omega arith)

abbrev OpeningWithin : Opening → Type 0
OpeningWithin (Refused refusal head) = IsOfBytes refusal
OpeningWithin (Awaits due size) = IsDueWithin due × (size ≤ most_body)

with_fits : (r : Result ℕ Refusal) (g : Heading) → SizeWithin r → OpeningWithin (opening_with r g)
with_fits (Ok size) g fits = (due_within g, fits)
with_fits (Err refusal) g fits = fits

opening_fits : (g : Heading) → OpeningWithin (opening_of g)
unfolding opening_of
opening_fits g = with_fits (body_size g) g (body_fits g)

opened_within : (o : Opening) (text : List ℕ) (ended : Bool) → OpeningWithin o → FrontWithin (opened o text ended)
opened_within (Refused refusal head) text ended fits = fits
opened_within (Awaits due size) text ended fits = gathered_within due size text ended fits.0 fits.1

with_within : (text : List ℕ) (o : Option (RequestHead × List ℕ)) (ended : Bool) → FrontWithin (front_with text o ended)
with_within text None ended = no_head_within text ended
with_within text (Some x) ended = opened_within (opening_of (heading_of x.0)) x.1 ended (opening_fits (heading_of x.0))

front_within : (text : List ℕ) (ended : Bool) → FrontWithin (front text ended)
front_within text ended = with_within text (head_in text) ended

-- ---- all items of a stream

onward_within : (f : Front) (again : List ℕ → List Heard) → FrontWithin f → ((rest : List ℕ) → AllByRecursion IsWithin (again rest)) → AllByRecursion IsWithin (onward f again)
onward_within Nothing again within all = tt
onward_within (Gives item rest) again within all = (within, either (AllByRecursion IsWithin) (keeps item) (again rest) [] (all rest) tt)

upto_within : (most : ℕ) (text : List ℕ) (ended : Bool) → AllByRecursion IsWithin (items_upto most text ended)
unfolding items_upto
upto_within zero text ended = tt
upto_within (suc most) text ended =
    onward_within (front text ended) (λ rest. items_upto most rest ended) (front_within text ended) (λ rest. upto_within most rest ended)

pub items_within : (text : List ℕ) (ended : Bool) → AllByRecursion IsWithin (items text ended)
unfolding items
items_within text ended = upto_within (length text) text ended
