-- The text of a reply: status line, header lines, body (RFC 9112 sections 2.1, 4, 6 and 9.6, RFC 9110 sections 8.3, 8.6, 10.2.1 and 15).
use Rattle.std.specs.Prelude.{ℕ, Bool, List, [], ◌++◌, length, codes, decimal, ◌==◌, if◌then◌else◌}
use Rattle.http_items.specs.Refusals.{text_of}
use Rattle.http_items.specs.declared.refusals.Refusal.{Refusal}
use Rattle.http_items.specs.declared.refusals.Refusal.TheVariants.{BadHead, BadHost, TransferCoding, BadLength, TooLarge, CutBody, BadTarget, BadMethod, NoRoute, AdmissionSpent}
use Rattle.http_front.specs.Reported.{Reported, Replied, Exited, Trapped, OutOfBudget, RefusedAs}

-- the status of a refusal (RFC 9110 sections 15.5 and 15.6)
abbrev pub refusal_status : Refusal → ℕ
refusal_status BadHead = 400
refusal_status BadHost = 400
refusal_status TransferCoding = 501
refusal_status BadLength = 400
refusal_status TooLarge = 413
refusal_status CutBody = 400
refusal_status BadTarget = 400
refusal_status BadMethod = 405
refusal_status NoRoute = 404
refusal_status AdmissionSpent = 503

-- the status code
abbrev pub status_of : Reported → ℕ
status_of (Replied _) = 200
status_of (Exited _) = 500
status_of (Trapped _) = 500
status_of OutOfBudget = 504
status_of (RefusedAs refusal) = refusal_status refusal

-- the phrase beside a status code
abbrev pub phrase_of : ℕ → List ℕ
phrase_of status =
    if status == 200 then codes "OK" else (
    if status == 400 then codes "Bad Request" else (
    if status == 404 then codes "Not Found" else (
    if status == 405 then codes "Method Not Allowed" else (
    if status == 413 then codes "Payload Too Large" else (
    if status == 500 then codes "Internal Server Error" else (
    if status == 501 then codes "Not Implemented" else (
    if status == 503 then codes "Service Unavailable" else
    codes "Gateway Timeout")))))))

-- the type of the body, which is the route's where the function itself replied
abbrev pub content_type_of : Reported → (route : List ℕ) → List ℕ
content_type_of (Replied _) route = route
content_type_of (Exited _) _ = codes "text/plain"
content_type_of (Trapped _) _ = codes "text/plain"
content_type_of OutOfBudget _ = codes "text/plain"
content_type_of (RefusedAs _) _ = codes "text/plain"

-- the body, also where it is not sent
abbrev pub body_of : Reported → List ℕ
body_of (Replied bytes) = bytes
body_of (Exited code) = codes "exit: " ++ decimal code
body_of (Trapped cause) = codes "trap: " ++ cause
body_of OutOfBudget = codes "budget spent"
body_of (RefusedAs refusal) = text_of refusal

-- the first line
abbrev pub status_line : (status : ℕ) → List ℕ
status_line status = codes "HTTP/1.1 " ++ decimal status ++ codes " " ++ phrase_of status ++ codes "\r\n"

-- a line of the head
abbrev pub header_line : (name value : List ℕ) → List ℕ
header_line name value = name ++ codes ": " ++ value ++ codes "\r\n"

-- the methods that a resource has, which a refused method is told
abbrev pub allow_line : (status : ℕ) → List ℕ
allow_line status = if status == 405 then header_line (codes "Allow") (codes "GET, HEAD, POST") else []

-- the word that ends the connection
abbrev pub close_line : (keep : Bool) → List ℕ
close_line keep = if keep then [] else header_line (codes "Connection") (codes "close")

-- the head, with the length of the body also where that is not sent
unfoldable pub head_of : (status : ℕ) (type : List ℕ) (size : ℕ) (keep : Bool) → List ℕ
head_of status type size keep =
    status_line status
    ++ allow_line status
    ++ header_line (codes "Content-Type") type
    ++ header_line (codes "Content-Length") (decimal size)
    ++ close_line keep
    ++ codes "\r\n"

-- the body as it is sent; a reply to HEAD has none
abbrev pub sent : (head : Bool) (body : List ℕ) → List ℕ
sent head body = if head then [] else body

-- the whole reply
unfoldable pub reply_of : Reported → (route : List ℕ) (head keep : Bool) → List ℕ
reply_of r route head keep =
    head_of (status_of r) (content_type_of r route) (length (body_of r)) keep ++ sent head (body_of r)
