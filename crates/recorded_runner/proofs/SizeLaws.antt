-- How long replies are.
use Rattle.std.proofs.Common.{◌≡◌, ℕ, zero, suc, ◌+◌, ◌*◌, ◌<◌, ◌≤◌, Bool, true, false, ◌==◌, if◌then◌else◌, List, [], ◌∷◌, ◌++◌, length, get_or, set, replicate, codes, decimal, refl, ap, arith, length-append}
use Rattle.std.proofs.lemmas.Fmt.{length-decimal-le}
use Rattle.http_front.specs.Reply.{status_of, phrase_of, content_type_of, body_of, status_line, header_line, allow_line, close_line, head_of, sent, reply_of}
use Rattle.http_front.specs.Reported.{Reported, Replied, Exited, Trapped, OutOfBudget, RefusedAs}
use Rattle.http_items.specs.Refusals.{text_of}
use Rattle.http_items.specs.declared.refusals.Refusal.{Refusal}
use Rattle.http_items.specs.declared.refusals.Refusal.TheVariants.{BadHead, BadHost, TransferCoding, BadLength, TooLarge, CutBody, BadTarget, BadMethod, NoRoute, AdmissionSpent}
use Rattle.workers.specs.Outcomes.{IsShort}
use Rattle.recorded_runner.specs.Joined.{joined_from}
use Rattle.recorded_runner.specs.ReplayText.{answers_magic, connection_text}
use Rattle.recorded_runner.specs.Sizes.{AreWithin, total}

text_few : (refusal : Refusal) → length (text_of refusal) ≤ 64
text_few BadHead = omega arith
text_few BadHost = omega arith
text_few TransferCoding = omega arith
text_few BadLength = omega arith
text_few TooLarge = omega arith
text_few CutBody = omega arith
text_few BadTarget = omega arith
text_few BadMethod = omega arith
text_few NoRoute = omega arith
text_few AdmissionSpent = omega arith

-- two parts
both_few : (xs ys : List ℕ) (m n : ℕ) → length xs ≤ m → length ys ≤ n → length (xs ++ ys) ≤ m + n
both_few xs ys m n few more = omega (arith, length-append xs ys, few, more)

body_few : (r : Reported) → IsShort r → length (body_of r) ≤ 65536
body_few (Replied bytes) short = short
body_few (Exited code) short =
    let digits : length (decimal code) ≤ 10 = length-decimal-le 10 code (omega arith) (omega (arith, short)) (omega (arith, short)) in
    omega (arith, both_few (codes "exit: ") (decimal code) 6 10 (omega arith) digits)
body_few (Trapped cause) short = omega (arith, both_few (codes "trap: ") cause 6 64 (omega arith) short)
body_few OutOfBudget short = omega arith
body_few (RefusedAs refusal) short = omega (arith, text_few refusal)

-- ---- the head

refused_status : (refusal : Refusal) → (status_of (RefusedAs refusal) < 1000) × (length (phrase_of (status_of (RefusedAs refusal))) ≤ 32)
refused_status BadHead = (omega arith, omega arith)
refused_status BadHost = (omega arith, omega arith)
refused_status TransferCoding = (omega arith, omega arith)
refused_status BadLength = (omega arith, omega arith)
refused_status TooLarge = (omega arith, omega arith)
refused_status CutBody = (omega arith, omega arith)
refused_status BadTarget = (omega arith, omega arith)
refused_status BadMethod = (omega arith, omega arith)
refused_status NoRoute = (omega arith, omega arith)
refused_status AdmissionSpent = (omega arith, omega arith)

status_few : (r : Reported) → (status_of r < 1000) × (length (phrase_of (status_of r)) ≤ 32)
status_few (Replied bytes) = (omega arith, omega arith)
status_few (Exited code) = (omega arith, omega arith)
status_few (Trapped cause) = (omega arith, omega arith)
status_few OutOfBudget = (omega arith, omega arith)
status_few (RefusedAs refusal) = refused_status refusal

type_few : (r : Reported) (type : List ℕ) → length type ≤ 128 → length (content_type_of r type) ≤ 128
type_few (Replied bytes) type few = few
type_few (Exited code) type few = omega arith
type_few (Trapped cause) type few = omega arith
type_few OutOfBudget type few = omega arith
type_few (RefusedAs refusal) type few = omega arith

line_few : (status : ℕ) → status < 1000 → length (phrase_of status) ≤ 32 → length (status_line status) ≤ 47
line_few status small few =
    both_few (codes "HTTP/1.1 " ++ decimal status ++ codes " " ++ phrase_of status) (codes "\r\n") 45 2
    (both_few (codes "HTTP/1.1 " ++ decimal status ++ codes " ") (phrase_of status) 13 32
    (both_few (codes "HTTP/1.1 " ++ decimal status) (codes " ") 12 1
    (both_few (codes "HTTP/1.1 ") (decimal status) 9 3 (omega arith) (length-decimal-le 3 status (omega arith) (omega (arith, small)) (omega (arith, small))))
    (omega arith)) few) (omega arith)

header_few : (name value : List ℕ) (m n : ℕ) → length name ≤ m → length value ≤ n → length (header_line name value) ≤ m + 2 + n + 2
header_few name value m n few more =
    both_few (name ++ codes ": " ++ value) (codes "\r\n") (m + 2 + n) 2
    (both_few (name ++ codes ": ") value (m + 2) n (both_few name (codes ": ") m 2 few (omega arith)) more) (omega arith)

allow_few : (b : Bool) → length (if b then header_line (codes "Allow") (codes "GET, HEAD, POST") else []) ≤ 24
allow_few true = header_few (codes "Allow") (codes "GET, HEAD, POST") 5 15 (omega arith) (omega arith)
allow_few false = omega arith

close_few : (keep : Bool) → length (close_line keep) ≤ 19
close_few true = omega arith
close_few false = header_few (codes "Connection") (codes "close") 10 5 (omega arith) (omega arith)

head_few : (r : Reported) (type : List ℕ) (size : ℕ) (keep : Bool) → length type ≤ 128 → size ≤ 65536 → length (head_of (status_of r) type size keep) ≤ 512
unfolding head_of
head_few r type size keep few small =
    let status = status_of r in
    let line = line_few status (status_few r).0 (status_few r).1 in
    let typed = header_few (codes "Content-Type") type 12 128 (omega arith) few in
    let sized = header_few (codes "Content-Length") (decimal size) 14 5 (omega arith) (length-decimal-le 5 size (omega arith) (omega (arith, small)) (omega (arith, small))) in
    let typed_line = header_line (codes "Content-Type") type in
    let sized_line = header_line (codes "Content-Length") (decimal size) in
    omega (
      arith,
      both_few (status_line status ++ allow_line status ++ typed_line ++ sized_line ++ close_line keep) (codes "\r\n") 257 2
          (both_few (status_line status ++ allow_line status ++ typed_line ++ sized_line) (close_line keep) 238 19
          (both_few (status_line status ++ allow_line status ++ typed_line) sized_line 215 23
          (both_few (status_line status ++ allow_line status) typed_line 71 144
          (both_few (status_line status) (allow_line status) 47 24 line (allow_few (status == 405))) typed) sized) (close_few keep)) (omega arith),
    )

sent_few : (head : Bool) (body : List ℕ) → length body ≤ 65536 → length (sent head body) ≤ 65536
sent_few true body few = omega arith
sent_few false body few = few

-- ---- the whole reply

pub reply_few : (r : Reported) (type : List ℕ) (head keep : Bool) → IsShort r → length type ≤ 128 → length (reply_of r type head keep) ≤ 66048
unfolding reply_of
reply_few r type head keep short few =
    let body = body_few r short in
    both_few (head_of (status_of r) (content_type_of r type) (length (body_of r)) keep) (sent head (body_of r)) 512 65536
    (head_few r (content_type_of r type) (length (body_of r)) keep (type_few r type few) body) (sent_few head (body_of r) body)

pub few_if : (reply : List ℕ) (r : Reported) (type : List ℕ) (head keep : Bool) → reply ≡ reply_of r type head keep → IsShort r → length type ≤ 128 → length reply ≤ 66048
few_if reply r type head keep is short few = omega (arith, ap (λ (l : List ℕ). length l) is, reply_few r type head keep short few)

-- ---- many

none_total : (n : ℕ) → total (replicate {A = List ℕ} n []) ≡ 0
none_total zero = refl
none_total (suc n) = omega (arith, none_total n)

pub none_within : (n : ℕ) (replies : List (List ℕ)) → replies ≡ replicate n [] → AreWithin 0 replies
none_within n replies are = omega (arith, ap (λ (rs : List (List ℕ)). total rs) are, none_total n)

total_more : (link : ℕ) (all : List (List ℕ)) (reply : List ℕ) → link < length all → total (set all link (get_or all link [] ++ reply)) ≡ total all + length reply
total_more link [] reply below = absurd (omega (arith, below))
total_more zero (replies ∷ others) reply below = omega (arith, length-append replies reply)
total_more (suc link) (replies ∷ others) reply below = omega (arith, total_more link others reply (omega (arith, below)))

pub one_within : (most more link : ℕ) (old new : List (List ℕ)) (reply : List ℕ) → AreWithin most old → link < length old → new ≡ set old link (get_or old link [] ++ reply) → length reply ≤ more
    → AreWithin (most + more) new
one_within most more link old new reply within below is few =
    omega (arith, ap (λ (rs : List (List ℕ)). total rs) is, total_more link old reply below, within, few)

pub wider : (one other : ℕ) (replies : List (List ℕ)) → one ≤ other → AreWithin one replies → AreWithin other replies
wider one other replies le within = omega (arith, le, within)

-- one connection has no more than all
pub each_within : (most link : ℕ) (replies : List (List ℕ)) → AreWithin most replies → length (get_or replies link []) ≤ most
each_within most link replies within = omega (arith, within, of_all link replies)
  where
    of_all : (link : ℕ) (all : List (List ℕ)) → length (get_or all link []) ≤ total all
    of_all link [] = omega arith
    of_all zero (replies ∷ others) = omega arith
    of_all (suc link) (replies ∷ others) = omega (arith, of_all link others)

-- and a number and a length beside them
joined_few : (link : ℕ) (all : List (List ℕ)) → length (joined_from link all) ≡ 8 * length all + total all
joined_few link [] = refl
joined_few link (replies ∷ others) =
    let counted : suc (suc (suc (suc (suc (suc (suc (suc (length replies)))))))) ≡ 8 + length replies = omega arith in
    let front : length (connection_text link replies) ≡ 8 + length replies = counted in
    omega (arith, length-append (connection_text link replies) (joined_from (suc link) others), front, joined_few (suc link) others)

pub text_within : (most : ℕ) (all : List (List ℕ)) (text : List ℕ) → text ≡ answers_magic ++ joined_from 0 all → AreWithin most all → length text ≤ 4 + 8 * length all + most
text_within most all text is within =
    omega (arith, ap (λ (l : List ℕ). length l) is, length-append answers_magic (joined_from 0 all), joined_few 0 all, within)
