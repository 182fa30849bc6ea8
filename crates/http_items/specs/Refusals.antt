-- The number and the text of each refusal. They are this server's own: RFC 9110 section 15.5 leaves to each server what the body of a refusal says.
use Rattle.std.specs.Prelude.{ℕ, List, codes, ◌==◌, if◌then◌else◌}
use Rattle.http_items.specs.declared.refusals.Refusal.{Refusal}
use Rattle.http_items.specs.declared.refusals.Refusal.TheVariants.{BadHead, BadHost, TransferCoding, BadLength, TooLarge, CutBody, BadTarget, BadMethod, NoRoute, AdmissionSpent}

abbrev pub number_of : Refusal → ℕ
number_of BadHead = 1
number_of BadHost = 2
number_of TransferCoding = 3
number_of BadLength = 4
number_of TooLarge = 5
number_of CutBody = 6
number_of BadTarget = 7
number_of BadMethod = 8
number_of NoRoute = 9
number_of AdmissionSpent = 10

-- the refusal with a number from 1 to 10
abbrev pub refusal_numbered : ℕ → Refusal
refusal_numbered n =
    if n == 1 then BadHead else (
    if n == 2 then BadHost else (
    if n == 3 then TransferCoding else (
    if n == 4 then BadLength else (
    if n == 5 then TooLarge else (
    if n == 6 then CutBody else (
    if n == 7 then BadTarget else (
    if n == 8 then BadMethod else (
    if n == 9 then NoRoute else
    AdmissionSpent))))))))

-- what a client reads
abbrev pub text_of : Refusal → List ℕ
text_of BadHead = codes "bad request: head"
text_of BadHost = codes "bad request: host"
text_of TransferCoding = codes "not implemented: transfer coding"
text_of BadLength = codes "bad request: content length"
text_of TooLarge = codes "payload too large"
text_of CutBody = codes "bad request: cut body"
text_of BadTarget = codes "bad request: target"
text_of BadMethod = codes "method not allowed"
text_of NoRoute = codes "no route"
text_of AdmissionSpent = codes "admission spent"
