-- The path that a request's target names (RFC 9112 section 3.2, in origin-form and absolute-form; RFC 9110 section 4.2.1).
use Rattle.std.specs.Prelude.{ℕ, Bool, not, ◌&&◌, List, [], ◌∷◌, length, take, drop, Option, Some, None, option_and_then, codes, if◌then◌else◌, ◌==◌, nat_le, take_while}
use Rattle.std.specs.List.{list_all, prefix_len}
use Rattle.http1.specs.Text.{eq_ignore_case}

-- a visible byte of ASCII
abbrev pub is_visible : ℕ → Bool
is_visible b = nat_le 33 b && nat_le b 126

abbrev pub slash : ℕ
slash = 47

abbrev pub question_mark : ℕ
question_mark = 63

abbrev pub is_no_question_mark : ℕ → Bool
is_no_question_mark b = not (b == question_mark)

-- a byte of the part that names the host
abbrev pub is_of_host : ℕ → Bool
is_of_host b = not (b == slash) && not (b == question_mark)

-- the part in front of the query
abbrev pub without_query : List ℕ → List ℕ
without_query = take_while is_no_question_mark

-- the bytes behind the part that names the host
abbrev pub behind_host : List ℕ → List ℕ
behind_host t = drop (prefix_len is_of_host t) t

-- the bytes behind `http://`, in any case
abbrev pub behind_scheme : List ℕ → Option (List ℕ)
behind_scheme t =
    if nat_le 7 (length t) then (if eq_ignore_case (take 7 t) (codes "http://") then Some (drop 7 t) else None)
    else None

-- an empty path is that of the root
abbrev pub rooted : List ℕ → List ℕ
rooted [] = codes "/"
rooted (b ∷ path) = b ∷ path

-- the path behind the name of a host, which may not be empty
abbrev pub path_behind : List ℕ → Option (List ℕ)
path_behind t = if prefix_len is_of_host t == 0 then None else Some (rooted (without_query (behind_host t)))

-- the path of a target that begins with a slash, or of one that names a host
abbrev pub path_in : List ℕ → Option (List ℕ)
path_in [] = None
path_in (b ∷ t) = if b == slash then Some (without_query (b ∷ t)) else option_and_then path_behind (behind_scheme (b ∷ t))

-- the path, if the target has one
unfoldable pub path_of : List ℕ → Option (List ℕ)
path_of t = if list_all is_visible t then path_in t else None
