-- Requests of the load that starts at 0, by numbers that were computed apart from these definitions.
use Rattle.std.proofs.Common.{◌≡◌, ◌%◌, [], ◌∷◌, take, drop, codes, refl}
use Rattle.generated_load.specs.Generator.{next_state, drawn}
use Rattle.generated_load.specs.Requests.{path_at, body_size, body_of}

first_drawn : drawn 0 0 ≡ 167951807
unfolding next_state
first_drawn = refl

first_path : path_at (167951807 % 4) ≡ codes "/echo"
first_path = refl

first_size : body_size 167951807 ≡ 1951
first_size = refl

first_bytes : take 3 (body_of 167951807) ≡ 0xBF ∷ 0xC0 ∷ 0xC1 ∷ []
first_bytes = refl

last_bytes : drop 1949 (body_of 167951807) ≡ 0x5C ∷ 0x5D ∷ []
last_bytes = refl

twentieth_drawn : drawn 0 19 ≡ 881416483
unfolding next_state
twentieth_drawn = refl

twentieth_size : body_size 881416483 ≡ 120
twentieth_size = refl

-- from the greatest start on
greatest_drawn : drawn 18446744073709551615 19 ≡ 1326403602
unfolding next_state
greatest_drawn = refl

greatest_path : path_at (1326403602 % 4) ≡ codes "/loop"
greatest_path = refl
