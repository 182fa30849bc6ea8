-- A reply from the parts that are laid out one after another.
use Rattle.std.proofs.Common.{◌≡◌, ℕ, ◌+◌, List, ◌++◌, Bool, length, codes, decimal, length-append, append_assoc, ◌∙◌, sym, ap}
use Rattle.http_front.specs.Reply.{status_of, content_type_of, body_of, status_line, allow_line, header_line, close_line, head_of, sent, reply_of}
use Rattle.http_front.specs.Reported.{Reported}

regroup : (before s a t n c e : List ℕ) →
    (((((before ++ s) ++ a) ++ t) ++ n) ++ c) ++ e ≡ before ++ (((((s ++ a) ++ t) ++ n) ++ c) ++ e)
regroup before s a t n c e = simp append_assoc

-- the lines of a head, behind what is there before
pub lined_up : (before : List ℕ) (status : ℕ) (type : List ℕ) (digits : List ℕ) (size : ℕ) (keep : Bool) →
    digits ≡ decimal size →
    (((((before ++ status_line status) ++ allow_line status)
    ++ header_line (codes "Content-Type") type)
    ++ header_line (codes "Content-Length") digits)
    ++ close_line keep) ++ codes "\r\n"
    ≡ before ++ head_of status type size keep
unfolding head_of
lined_up before status type digits size keep is_digits =
    rw is_digits (regroup before (status_line status) (allow_line status) (header_line (codes "Content-Type") type)
    (header_line (codes "Content-Length") (decimal size)) (close_line keep) (codes "\r\n"))

-- a head and a body whose parts are those of the outcome
pub laid_out : (r : Reported) (route : List ℕ) (head keep : Bool) (status : ℕ) (type label detail : List ℕ) →
    status ≡ status_of r → type ≡ content_type_of r route → label ++ detail ≡ body_of r →
    head_of status type (length label + length detail) keep ++ sent head (label ++ detail)
    ≡ reply_of r route head keep
unfolding reply_of
laid_out r route head keep status type label detail is_status is_type is_body =
    let sizes : length label + length detail ≡ length (body_of r) = sym (length-append label detail) ∙ ap length is_body in
    rw (sizes, is_status, is_type, is_body)
