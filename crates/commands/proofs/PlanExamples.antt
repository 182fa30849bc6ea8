-- A plan that reads files whose names came out of a file that it read before, worked through.
use Rattle.std.proofs.Common.{◌≡◌, ℕ, List, [], ◌∷◌, ◌++◌, codes, Option, None, Some, if◌then◌else◌, refl}
use Rattle.std.specs.Bool.{◌==◌}
use Rattle.std.specs.Str.{bytes_eq}
use Rattle.outside.specs.Library.{Files}
use Rattle.commands.specs.Endings.{Done, module_fault, not_read}
use Rattle.commands.specs.Plans.{Ends, Goes, Plan, Step, Stops, checked_file, checked_files, over}

-- the names in a file: a line feed ends each
abbrev names_from : (name bytes : List ℕ) → List (List ℕ)
names_from name [] = []
names_from name (byte ∷ bytes) = if byte == 10 then name ∷ names_from [] bytes else names_from (name ++ byte ∷ []) bytes

-- a part is refused by its number where it has no bytes
abbrev check_part : (number : ℕ) → (name bytes : List ℕ) → Step (List ℕ)
check_part number name [] = Stops (module_fault number 1 0)
check_part number name (byte ∷ bytes) = Goes (byte ∷ bytes)

abbrev joined : List (List ℕ) → List ℕ
joined [] = []
joined (part ∷ parts) = part ++ joined parts

-- the file `list` names the parts: they are read in its order, and shown behind one another
abbrev list_plan : Plan
list_plan =
    checked_file (codes "list") 100 (λ bytes. Goes (names_from [] bytes))
    (λ names. checked_files (λ name. name) 10 check_part 0 names (λ parts. Ends (Done (joined parts) [])))

-- the files `list`, `a` and `b`
abbrev three : (list a b : Option (List ℕ)) → Files
three list a b name =
    if bytes_eq name (codes "list") then list else (if bytes_eq name (codes "a") then a else (if bytes_eq name (codes "b") then b else None))

in_the_list's_order : over (three (Some (codes "b\na\nb\n")) (Some (codes "x")) (Some (codes "yz"))) list_plan ≡ Done (codes "yzxyz") []
in_the_list's_order = refl

no_list : over (three None (Some (codes "x")) (Some (codes "y"))) list_plan ≡ not_read (codes "list")
no_list = refl

of_no_names : over (three (Some []) None None) list_plan ≡ Done [] []
of_no_names = refl

a_part_is_missing : over (three (Some (codes "a\nc\n")) (Some (codes "x")) (Some [])) list_plan ≡ not_read (codes "c")
a_part_is_missing = refl

-- the second part is refused, before the third is looked for
a_part_is_refused : over (three (Some (codes "a\nb\nc\n")) (Some (codes "x")) (Some [])) list_plan ≡ module_fault 1 1 0
a_part_is_refused = refl
