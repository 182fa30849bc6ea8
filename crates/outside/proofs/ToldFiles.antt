-- What an answer of a library that tells its files says of the file.
use Rattle.std.proofs.Common.{◌≡◌, ℕ, ◌+◌, List, Option, None, Some, take, ap}
use Rattle.std.specs.Option.{option_map}
use Rattle.outside.specs.Library.{Files, Gives, IsTold}

-- the answer is as much of the held file as was asked for, and none where none is held
pub told_file : (files : Files) (name : List ℕ) (most before now : ℕ) (answer : Option (List ℕ))
    → IsTold (Some files) name most before now (Gives answer) → option_map (take (most + 1)) (files name) ≡ answer
told_file files name most before now None told = ap (option_map (take (most + 1))) told.0
told_file files name most before now (Some bytes) told = told
