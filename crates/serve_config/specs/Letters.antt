-- Which letters the texts of a configuration may have.
use Rattle.std.specs.Prelude.{ℕ, List, [], ◌∷◌, Bool, false, ◌||◌, ◌&&◌, ◌==◌, nat_le, not}
use Rattle.std.specs.List.{list_all}

-- the byte is one of these, the ends among them
abbrev pub is_between : (least most byte : ℕ) → Bool
is_between least most byte = nat_le least byte && nat_le byte most

-- `a` to `z`, `0` to `9`, `_` and `-`
abbrev pub is_name_byte : ℕ → Bool
is_name_byte byte = is_between 97 122 byte || (is_between 48 57 byte || (byte == 95 || byte == 45))

-- `{`, `}`, `:`, `*` and `?`, which have a meaning in patterns of paths and in targets
abbrev pub is_special : ℕ → Bool
is_special byte = byte == 123 || (byte == 125 || (byte == 58 || (byte == 42 || byte == 63)))

-- visible ASCII letters but the special ones
abbrev pub is_path_byte : ℕ → Bool
is_path_byte byte = is_between 33 126 byte && not (is_special byte)

-- visible ASCII letters and blanks
abbrev pub is_content_type_byte : ℕ → Bool
is_content_type_byte byte = is_between 32 126 byte

-- a path begins with `/`
abbrev pub is_path : List ℕ → Bool
is_path [] = false
is_path (byte ∷ bytes) = byte == 47 && list_all is_path_byte bytes
