-- A request of the load is one item, and what is behind it is left as it is.
use Rattle.std.proofs.Common.{◌≡◌, ℕ, ◌%◌, ◌/◌, ◌<◌, ◌≤◌, Bool, true, List, [], ◌∷◌, ◌++◌, length, decimal, Option, refl, sym, ap, ap₂, ◌∙◌, arith, length-append}
use Rattle.std.specs.List.{list_all}
use Rattle.std.specs.Char.{is_ascii_digit}
use Rattle.std.specs.Str.Parse.{digits_value}
use Rattle.std.proofs.Math.Seq.{drop-append_seam, take-append_seam}
use Rattle.std.proofs.lemmas.Fmt.{decimal_is_IsNumeral, length-decimal-le}
use Rattle.std.proofs.lemmas.List.FromFn.{length-map-range_with_len}
use Rattle.std.proofs.lemmas.Nat.{mod_below}
use Rattle.httparse.specs.Grammar.{RequestHead}
use Rattle.http_items.specs.declared.methods.Method.TheVariants.{Post}
use Rattle.http_items.specs.Headings.{most_body, Serve, Opening}
use Rattle.http_items.specs.Items.{Asked, Front, Gives, opened, front_with, front, onward, items, items_upto}
use Rattle.http_items.proofs.ItemLaws.{gathered_whole, items_step}
use Rattle.generated_load.specs.Requests.{path_at, body_size, body_byte, body_of, request_of}
use Rattle.generated_load.specs.Asked.{asked_by}
use Rattle.generated_load.proofs.Heads.{IsPath, known_path, digits_are_ascii, text_with, head_found, head_opens}

read_with : (path digits body rest : List ℕ) (ended : Bool) → IsPath path → 0 < length digits → list_all is_ascii_digit digits ≡ true → length digits ≤ 4 →
    digits_value 10 digits ≡ length body → length body ≤ most_body → front ((text_with path digits ++ body) ++ rest) ended ≡ Gives (Asked Post path true body) rest
read_with path digits body rest ended p some all few is small =
    ap (λ (o : Option (RequestHead × List ℕ)). front_with ((text_with path digits ++ body) ++ rest) o ended) (head_found path digits body rest p all few)
    ∙ ap (λ (o : Opening). opened o (body ++ rest) ended) (head_opens path digits (length body) p some all is small)
    ∙ gathered_whole (Serve Post path true) (length body) (body ++ rest) ended (omega (arith, length-append body rest))
    ∙ ap₂ (λ (mine others : List ℕ). Gives (Asked Post path true mine) others) (take-append_seam body rest) (drop-append_seam body rest)

pub request_read : (drawn : ℕ) (rest : List ℕ) (ended : Bool) → front (request_of drawn ++ rest) ended ≡ Gives (asked_by drawn) rest
request_read drawn rest ended =
    let size = body_size drawn in
    let small : size < 2000 = mod_below (drawn / 4) 2000 (omega arith) in
    let count : length (body_of drawn) ≡ size = length-map-range_with_len (body_byte drawn) 0 size in
    let number = decimal_is_IsNumeral size (omega (arith, small)) in
    read_with (path_at (drawn % 4)) (decimal size) (body_of drawn) rest ended (known_path (drawn % 4) (mod_below drawn 4 (omega arith)))
    number.0.0 (digits_are_ascii (decimal size) number.0.1)
    (length-decimal-le 4 size (omega arith) (omega (arith, small)) (omega (arith, small))) (number.1 ∙ sym count) (omega (arith, count, small))

-- so it is the first of the items
pub request_first : (drawn : ℕ) (rest : List ℕ) (ended : Bool) → items (request_of drawn ++ rest) ended ≡ asked_by drawn ∷ items rest ended
request_first drawn rest ended =
    items_step (request_of drawn ++ rest) ended ∙ ap (λ (f : Front). onward f (λ more. items more ended)) (request_read drawn rest ended)

pub none_first : (ended : Bool) → items [] ended ≡ []
unfolding items items_upto
none_first ended = refl
