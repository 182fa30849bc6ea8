-- The first file of a name, among files and among what contracts see of them.
use Rattle.std.proofs.Common.{◌≡◌, ℕ, List, [], ◌∷◌, map, find, true, false, cond, Some, Vec, refl}
use Rattle.std.specs.Option.{option_map}
use Rattle.std.specs.Str.{bytes_eq}
use Rattle.std.specs.declared.alloc.Global.{Global}
use Rattle.outside.specs.Shelf.{file_of, files_of}

-- looking at the files is looking at their names and bytes
pub find_file : (files : List (List ℕ × Vec ℕ Global)) (name : List ℕ) →
    files_of (map file_of files) name ≡ option_map (λ file. file.1.items) (find (λ file. bytes_eq file.0 name) files)
find_file [] name = refl
find_file (file ∷ rest) name =
    elim (bytes_eq file.0 name) as (λ b.
    option_map (λ f. f.1) (cond b (Some (file_of file)) (find (λ f. bytes_eq f.0 name) (map file_of rest)))
    ≡ option_map (λ f. f.1.items) (cond b (Some file) (find (λ f. bytes_eq f.0 name) rest)))
    [ true ↦ refl | false ↦ find_file rest name ]
