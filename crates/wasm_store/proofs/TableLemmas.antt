-- Elements that are set one after another.
use Rattle.std.proofs.Common.{◌≡◌, ℕ, ◌+◌, ◌<◌, ◌≤◌, List, [], ◌∷◌, ◌++◌, length, get_or, set, take, drop, map, Option, Some, None, sym, ap, ◌∙◌, arith, append_assoc, length-append}
use Rattle.std.proofs.lemmas.List.{drop_more, set_at, length-map, length-take-le, length_push, map_more}
use Rattle.wasm_store.specs.View.{View, with_elements}

-- one function more
set_one : (table : List (Option ℕ)) (at : ℕ) (done : List (Option ℕ)) (next : Option ℕ) → at + length done < length table → set (take at table ++ (done ++ drop (at + length done) table)) (at + length done) next ≡ take at table ++ ((done ++ next ∷ []) ++ drop (at + length (done ++ next ∷ [])) table)
set_one table at done next within =
    let end = at + length done in
    let front = take at table in
    let long : length (front ++ done) ≡ end = omega (arith, length-append front done, length-take-le at table (omega (arith, within))) in
    let more : end + 1 ≡ at + length (done ++ next ∷ []) = omega (arith, length_push done next) in
    let opened : drop end table ≡ get_or table end None ∷ drop (end + 1) table = drop_more table end None within in
    ap (λ (xs : List (Option ℕ)). set (front ++ (done ++ xs)) end next) opened
    ∙ ap (λ (xs : List (Option ℕ)). set xs end next) (sym (append_assoc front done (get_or table end None ∷ drop (end + 1) table)))
    ∙ set_at (front ++ done) (get_or table end None) (drop (end + 1) table) next end long
    ∙ append_assoc front done (next ∷ drop (end + 1) table)
    ∙ ap (λ (xs : List (Option ℕ)). front ++ xs) (sym (append_assoc done (next ∷ []) (drop (end + 1) table)))
    ∙ ap (λ (n : ℕ). front ++ ((done ++ next ∷ []) ++ drop n table)) more

pub set_more : (table : List (Option ℕ)) (at : ℕ) (functions : List ℕ) (i d : ℕ) → i < length functions → at + length functions ≤ length table → set (with_elements table at (take i functions)) (at + i) (Some (get_or functions i d)) ≡ with_elements table at (take (i + 1) functions)
set_more table at functions i d below within =
    let so_far = take i functions in
    let long : length so_far ≡ i = length-take-le i functions (omega (arith, below)) in
    let wide : length (map Some so_far) ≡ length so_far = length-map so_far Some in
    let more : map Some (take (i + 1) functions) ≡ map Some so_far ++ Some (get_or functions i d) ∷ [] = map_more Some functions i d below in
    let longer : length (take (i + 1) functions) ≡ i + 1 = length-take-le (i + 1) functions (omega (arith, below)) in
    let ends : at + length (map Some so_far ++ Some (get_or functions i d) ∷ []) ≡ at + length (take (i + 1) functions) = omega (arith, wide, long, longer, length_push (map Some so_far) (Some (get_or functions i d))) in
    let place : at + i ≡ at + length (map Some so_far) = omega (arith, wide, long) in
    let last : at + length so_far ≡ at + length (map Some so_far) = omega (arith, wide) in
    let lower : at + length (map Some so_far) < length table = omega (arith, wide, long, below, within) in
    ap (λ (n : ℕ). set (take at table ++ (map Some so_far ++ drop n table)) (at + i) (Some (get_or functions i d))) last
    ∙ ap (λ (n : ℕ). set (take at table ++ (map Some so_far ++ drop (at + length (map Some so_far)) table)) n (Some (get_or functions i d))) place
    ∙ set_one table at (map Some so_far) (Some (get_or functions i d)) lower
    ∙ ap (λ (n : ℕ). take at table ++ ((map Some so_far ++ Some (get_or functions i d) ∷ []) ++ drop n table)) ends
    ∙ ap (λ (xs : List (Option ℕ)). take at table ++ (xs ++ drop (at + length (take (i + 1) functions)) table)) (sym more)

pub elements_more : (before now after : View) (at index i d : ℕ) (functions : List ℕ) → index ≡ at + i → now ≡ record before { table = with_elements before.table at (take i functions) } → after ≡ record now { table = set now.table index (Some (get_or functions i d)) } → i < length functions → at + length functions ≤ length before.table → after ≡ record before { table = with_elements before.table at (take (i + 1) functions) }
elements_more before now after at index i d functions place so_far step below within =
    step
    ∙ ap (λ (n : ℕ). record now { table = set now.table n (Some (get_or functions i d)) }) place
    ∙ ap (λ (v : View). record v { table = set v.table (at + i) (Some (get_or functions i d)) }) so_far
    ∙ ap (λ (table : List (Option ℕ)). record before { table = table }) (set_more before.table at functions i d below within)
