-- What marks tell of the bytes under them, after writes and after a rinse.
use Rattle.std.proofs.Common.{◌≡◌, ℕ, zero, suc, nat_eq, ◌+◌, ◌-◌, ◌*◌, ◌/◌, ◌<◌, ◌≤◌, Bool, true, false, if◌then◌else◌, List, [], ◌∷◌, ◌++◌, length, get_or, set, take, drop, replicate, refl, sym, ap, subst, ◌∙◌, arith, append_assoc, length-append, ⊎_elim}
use Rattle.std.proofs.lemmas.Bool.{both_ways, cases_lt, cases_eq, cases_Bool}
use Rattle.std.proofs.lemmas.Grind.{same_number_lists}
use Rattle.std.proofs.lemmas.List.{get_or-append_right, get_or_append_left, get_or_past, get_or-replicate, get_or-take, get_or-drop, get_or-set_same, get_or-set_other, set_at, drop_at, take_at, drop_more, drop-drop, replicate_more, replicate-append-replicate, length-replicate, length-take-le, take-append-drop, length-drop, length-set}
use Rattle.std.proofs.lemmas.List.Sums.{sum_by_more, sum_by-take-le, get_or-le-sum_by}
use Rattle.std.specs.List.{count_by, list_all}
use Rattle.wasm_meaning.specs.Bytes.{zeros, bytes_at, with_bytes}
use Rattle.wasm_store.specs.Marks.{IsTold, Covers, swept, written}
use Rattle.wasm_store.specs.Memory.{Laid}

-- zeros are zero, and so is what stands behind them
pub told_zeros : (n place : ℕ) → get_or (zeros n) place 0 ≡ 0
told_zeros n place =
    ⊎_elim
    (λ (below : place < n). get_or-replicate n place 0 0 below)
    (λ (past : n ≤ place). get_or_past (zeros n) place 0 (omega (arith, length-replicate {A = ℕ} n 0, past)))
    (cases_lt place n)

-- a list with a part written over, read before, within and behind that part
module _ {X : Type 0} (items : List X) (at : ℕ) (few : List X) (fits : at + length few ≤ length items) (place : ℕ) (d : X) where
  front_long : length (take at items) ≡ at
  front_long = length-take-le at items (omega (arith, fits))

  pub read_before : place < at → get_or (take at items ++ (few ++ drop (at + length few) items)) place d ≡ get_or items place d
  read_before below =
      get_or_append_left (take at items) (few ++ drop (at + length few) items) d place (omega (arith, front_long, below))
      ∙ get_or-take at items place d below

  pub read_within : at ≤ place → place < at + length few → get_or (take at items ++ (few ++ drop (at + length few) items)) place d ≡ get_or few (place - at) d
  read_within above below =
      get_or-append_right (take at items) (few ++ drop (at + length few) items) at place d front_long above
      ∙ get_or_append_left few (drop (at + length few) items) d (place - at) (omega (arith, above, below))

  pub read_behind : at + length few ≤ place → get_or (take at items ++ (few ++ drop (at + length few) items)) place d ≡ get_or items place d
  read_behind above =
      let there : at + length few + (place - at - length few) ≡ place = omega (arith, above) in
      get_or-append_right (take at items) (few ++ drop (at + length few) items) at place d front_long (omega (arith, above))
      ∙ get_or-append_right few (drop (at + length few) items) (length few) (place - at) d refl (omega (arith, above))
      ∙ get_or-drop (at + length few) items (place - at - length few) d
      ∙ ap (λ (n : ℕ). get_or items n d) there

-- a write keeps what the marks tell, where its blocks are marked
pub told_over : (marks after : List Bool) (bytes : List ℕ) (at : ℕ) (few : List ℕ) → IsTold marks bytes → Covers marks after at (length few) → at + length few ≤ length bytes → IsTold after (with_bytes bytes at few)
told_over marks after bytes at few told covers fits place off =
    let as_before : get_or bytes place 0 ≡ 0 = told place (covers.kept (place / 4096) off) in
    ⊎_elim
    (λ (below : place < at). read_before bytes at few fits place 0 below ∙ as_before)
    (λ (above : at ≤ place).
    ⊎_elim
    (λ (within : place < at + length few). absurd (both_ways _ off (covers.set place above within)))
    (λ (behind : at + length few ≤ place). read_behind bytes at few fits place 0 behind ∙ as_before)
    (cases_lt place (at + length few)))
    (cases_lt place at)

pub told_written : (marks after : List Bool) (bytes now : List ℕ) (pages at : ℕ) (few : List ℕ) (seen : Laid) → IsTold marks bytes → Covers marks after at (length few) → record { bytes = bytes; pages = pages } ≡ seen → at + length few ≤ length seen.bytes → now ≡ with_bytes bytes at few → IsTold after now
told_written marks after bytes now pages at few seen told covers same fits written =
    let there : at + length few ≤ length bytes = subst (λ (room : Laid). at + length few ≤ length room.bytes) (sym same) fits in
    subst (IsTold after) (sym written) (told_over marks after bytes at few told covers there)

-- so do more zeros behind the bytes
pub told_reached : (marks : List Bool) (bytes : List ℕ) (n : ℕ) → IsTold marks bytes → IsTold marks (bytes ++ zeros n)
told_reached marks bytes n told place off =
    ⊎_elim
    (λ (below : place < length bytes). get_or_append_left bytes (zeros n) 0 place below ∙ told place off)
    (λ (past : length bytes ≤ place). get_or-append_right bytes (zeros n) (length bytes) place 0 refl past ∙ told_zeros n (place - length bytes))
    (cases_lt place (length bytes))

-- a mark stays set when others are set
set_keeps : (marks : List Bool) (one block : ℕ) → get_or (set marks one true) block true ≡ false → get_or marks block true ≡ false
set_keeps marks one block off =
    ⊎_elim
    (λ (same : block ≡ one).
    ⊎_elim
    (λ (below : block < length marks).
    let there : get_or (set marks one true) block true ≡ true = ap (λ (n : ℕ). get_or (set marks one true) n true) same ∙ get_or-set_same marks one true true (omega (arith, below, same)) in
    absurd (both_ways _ off there))
    (λ (past : length marks ≤ block). absurd (both_ways _ off (get_or_past (set marks one true) block true (omega (arith, past, length-set marks one true)))))
    (cases_lt block (length marks)))
    (λ (other : block ≡ one → ⊥). sym (get_or-set_other marks one block true true other) ∙ off)
    (cases_eq block one)

set_stays : (marks : List Bool) (one block : ℕ) → get_or marks block true ≡ true → get_or (set marks one true) block true ≡ true
set_stays marks one block on =
    ⊎_elim
    (λ (there : get_or (set marks one true) block true ≡ true). there)
    (λ (off : get_or (set marks one true) block true ≡ false). absurd (both_ways _ (set_keeps marks one block off) on))
    (cases_Bool (get_or (set marks one true) block true))

set_there : (marks : List Bool) (one : ℕ) → get_or (set marks one true) one true ≡ true
set_there marks one =
    ⊎_elim
    (λ (below : one < length marks). get_or-set_same marks one true true below)
    (λ (past : length marks ≤ one). get_or_past (set marks one true) one true (omega (arith, past, length-set marks one true)))
    (cases_lt one (length marks))

-- the first and the last byte of a few name all their blocks
covers_ends : (marks : List Bool) (at count : ℕ) → 0 < count → count ≤ 4096 → Covers marks (set (set marks (at / 4096) true) ((at + count - 1) / 4096) true) at count
covers_ends marks at count some few =
    let first = at / 4096 in
    let last = (at + count - 1) / 4096 in
    let one = set marks first true in
    record {
      long = length-set one last true ∙ length-set marks first true;
      kept = λ block off. set_keeps marks first block (set_keeps one last block off);
      set = λ place above below.
          ⊎_elim
          (λ (lower : place / 4096 ≡ first). ap (λ (n : ℕ). get_or (set one last true) n true) lower ∙ set_stays one last first (set_there marks first))
          (λ (other : place / 4096 ≡ first → ⊥).
          let upper : place / 4096 ≡ last = upper_block at count place some few above below other in
          ap (λ (n : ℕ). get_or (set one last true) n true) upper ∙ set_there one last)
          (cases_eq (place / 4096) first);
    }
  where
    upper_block : (at count place : ℕ) → 0 < count → count ≤ 4096 → at ≤ place → place < at + count → (place / 4096 ≡ at / 4096 → ⊥) → place / 4096 ≡ (at + count - 1) / 4096
    upper_block at count place some few above below other = omega (arith, some, few, above, below, other)

pub covers_few : (marks after : List Bool) (at count : ℕ) → 0 < count → count ≤ 4096 → after ≡ set (set marks (at / 4096) true) ((at + count - 1) / 4096) true → Covers marks after at count
covers_few marks after at count some few same = subst (λ (xs : List Bool). Covers marks xs at count) (sym same) (covers_ends marks at count some few)

-- no bytes have no blocks
pub covers_none : (marks : List Bool) (at count : ℕ) → count ≡ 0 → Covers marks marks at count
covers_none marks at count none = record {
  long = refl;
  kept = λ block off. off;
  set = λ place above below. absurd (omega (arith, none, above, below));
}

-- a run of marks covers its bytes
pub covers_run : (marks : List Bool) (at count first n : ℕ) → 0 < count → first ≡ at / 4096 → n ≡ (at + count - 1) / 4096 + 1 - first → first + n ≤ length marks → (after : List Bool) → after ≡ take first marks ++ (replicate n true ++ drop (first + n) marks) → Covers marks after at count
covers_run marks at count first n some begins ends within after same =
    let run = replicate n true in
    let wide : length run ≡ n = length-replicate n true in
    let fits : first + length run ≤ length marks = omega (arith, wide, within) in
    let shape : after ≡ take first marks ++ (run ++ drop (first + length run) marks) = same ∙ ap (λ (k : ℕ). take first marks ++ (run ++ drop (first + k) marks)) (sym wide) in
    let long : length (take first marks ++ (run ++ drop (first + length run) marks)) ≡ length marks = omega (arith, length-append (take first marks) (run ++ drop (first + length run) marks), length-append run (drop (first + length run) marks), length-take-le first marks (omega (arith, within)), length-drop (first + length run) marks, fits) in
    record {
      long = ap length shape ∙ long;
      kept = λ block off.
          let read : get_or (take first marks ++ (run ++ drop (first + length run) marks)) block true ≡ false = sym (ap (λ (xs : List Bool). get_or xs block true) shape) ∙ off in
          ⊎_elim
          (λ (below : block < first). sym (read_before marks first run fits block true below) ∙ read)
          (λ (above : first ≤ block).
          ⊎_elim
          (λ (inside : block < first + length run). absurd (both_ways _ read (read_within marks first run fits block true above inside ∙ get_or-replicate n (block - first) true true (omega (arith, above, inside, wide)))))
          (λ (behind : first + length run ≤ block). sym (read_behind marks first run fits block true behind) ∙ read)
          (cases_lt block (first + length run)))
          (cases_lt block first);
      set = λ place above below.
          let lower : first ≤ place / 4096 = omega (arith, begins, above) in
          let upper : place / 4096 < first + length run = omega (arith, wide, ends, begins, some, above, below) in
          ap (λ (xs : List Bool). get_or xs (place / 4096) true) shape
          ∙ read_within marks first run fits (place / 4096) true lower upper
          ∙ get_or-replicate n (place / 4096 - first) true true (omega (arith, lower, upper, wide));
    }

-- a list whose first items are blank
module _ {X : Type 0} where
  pub length-swept : (n : ℕ) (blank : X) (items : List X) → n ≤ length items → length (swept n blank items) ≡ length items
  length-swept n blank items within = omega (arith, length-append (replicate n blank) (drop n items), length-replicate n blank, length-drop n items, within)

  pub swept_read : (n : ℕ) (blank : X) (items : List X) (i : ℕ) (d : X) → n ≤ i → get_or (swept n blank items) i d ≡ get_or items i d
  swept_read n blank items i d above =
      let there : n + (i - n) ≡ i = omega (arith, above) in
      get_or-append_right (replicate n blank) (drop n items) n i d (length-replicate n blank) above
      ∙ get_or-drop n items (i - n) d
      ∙ ap (λ (k : ℕ). get_or items k d) there

  pub swept_more : (n : ℕ) (blank : X) (items : List X) → n < length items → set (swept n blank items) n blank ≡ swept (n + 1) blank items
  swept_more n blank items below =
      ap (λ (xs : List X). set (replicate n blank ++ xs) n blank) (drop_more items n blank below)
      ∙ set_at (replicate n blank) (get_or items n blank) (drop (n + 1) items) blank n (length-replicate n blank)
      ∙ sym (append_assoc (replicate n blank) (blank ∷ []) (drop (n + 1) items))
      ∙ ap (λ (xs : List X). xs ++ drop (n + 1) items) (replicate_more n blank)

-- a run of zeros behind the zeros
swept_on : (n more : ℕ) (bytes : List ℕ) → zeros n ++ (zeros more ++ drop more (drop n bytes)) ≡ swept (n + more) 0 bytes
swept_on n more bytes =
    sym (append_assoc (zeros n) (zeros more) (drop more (drop n bytes)))
    ∙ ap (λ (xs : List ℕ). xs ++ drop more (drop n bytes)) (replicate-append-replicate n more 0)
    ∙ ap (λ (xs : List ℕ). zeros (n + more) ++ xs) (drop-drop more n bytes)

-- it is laid down
swept_wiped : (n more : ℕ) (bytes : List ℕ) → n + more ≤ length bytes → with_bytes (swept n 0 bytes) n (zeros more) ≡ swept (n + more) 0 bytes
swept_wiped n more bytes fits =
    let wide : length (zeros more) ≡ more = length-replicate {A = ℕ} more 0 in
    let long : length (zeros n) ≡ n = length-replicate {A = ℕ} n 0 in
    let sum : n + length (zeros more) ≡ n + more = omega (arith, wide) in
    ap (λ (xs : List ℕ). xs ++ (zeros more ++ drop (n + length (zeros more)) (swept n 0 bytes))) (take_at (zeros n) (drop n bytes) n long)
    ∙ ap (λ (k : ℕ). zeros n ++ (zeros more ++ drop k (swept n 0 bytes))) sum
    ∙ ap (λ (xs : List ℕ). zeros n ++ (zeros more ++ xs)) (sym (drop-drop more n (swept n 0 bytes)) ∙ ap (λ (xs : List ℕ). drop more xs) (drop_at (zeros n) (drop n bytes) n long))
    ∙ swept_on n more bytes

-- or was there
swept_found : (n more : ℕ) (bytes : List ℕ) → take more (drop n bytes) ≡ zeros more → swept n 0 bytes ≡ swept (n + more) 0 bytes
swept_found n more bytes there =
    ap (λ (xs : List ℕ). zeros n ++ xs) (sym (take-append-drop more (drop n bytes)) ∙ ap (λ (xs : List ℕ). xs ++ drop more (drop n bytes)) there)
    ∙ swept_on n more bytes

-- a block without a mark is zero
told_block : (marks : List Bool) (bytes : List ℕ) (block n : ℕ) → IsTold marks bytes → n ≡ 4096 → block * 4096 + n ≤ length bytes → get_or marks block true ≡ false → take n (drop (block * 4096) bytes) ≡ zeros n
told_block marks bytes block n told size fits off =
    let long : length (take n (drop (block * 4096) bytes)) ≡ n = length-take-le n (drop (block * 4096) bytes) (omega (arith, length-drop (block * 4096) bytes, fits)) in
    same_number_lists _ _ (long ∙ sym (length-replicate {A = ℕ} n 0)) (λ k below.
    let lower : k < n = omega (arith, long, below) in
    let place : block * 4096 + k ≡ k + block * 4096 = omega arith in
    let which : (block * 4096 + k) / 4096 ≡ block = omega (arith, lower, size) in
    get_or-take n (drop (block * 4096) bytes) k 0 lower
    ∙ get_or-drop (block * 4096) bytes k 0
    ∙ told (block * 4096 + k) (ap (λ (b : ℕ). get_or marks b true) which ∙ off)
    ∙ sym (told_zeros n k))

-- one block more is rinsed, by its mark
sweep_by : (mark : Bool) (n more : ℕ) (bytes before now : List ℕ) → n + more ≤ length bytes → (mark ≡ false → take more (drop n bytes) ≡ zeros more) → before ≡ swept n 0 bytes → now ≡ (if mark then with_bytes before n (zeros more) else before) → now ≡ swept (n + more) 0 bytes
sweep_by true n more bytes before now fits _ so_far step = step ∙ ap (λ (xs : List ℕ). with_bytes xs n (zeros more)) so_far ∙ swept_wiped n more bytes fits
sweep_by false n more bytes before now fits there so_far step = step ∙ so_far ∙ swept_found n more bytes (there refl)

pub sweep_more : (marks marks_before : List Bool) (bytes before now : List ℕ) (block n : ℕ) → n ≡ 4096 → IsTold marks bytes → block * 4096 + n ≤ length bytes → marks_before ≡ swept block false marks → before ≡ swept (block * 4096) 0 bytes → now ≡ (if get_or marks_before block true then with_bytes before (block * 4096) (zeros n) else before) → now ≡ swept ((block + 1) * 4096) 0 bytes
sweep_more marks marks_before bytes before now block n size told fits marks_so_far so_far step =
    let sum : block * 4096 + n ≡ (block + 1) * 4096 = omega (arith, size) in
    let read : get_or marks_before block true ≡ get_or marks block true = ap (λ (xs : List Bool). get_or xs block true) marks_so_far ∙ swept_read block false marks block true (omega arith) in
    sweep_by (get_or marks_before block true) (block * 4096) n bytes before now fits (λ off. told_block marks bytes block n told size fits (sym read ∙ off)) so_far step
    ∙ ap (λ (k : ℕ). swept k 0 bytes) sum

pub marks_more : (marks before now : List Bool) (block : ℕ) → block < length marks → before ≡ swept block false marks → now ≡ set before block false → now ≡ swept (block + 1) false marks
marks_more marks before now block below so_far step = step ∙ ap (λ (xs : List Bool). set xs block false) so_far ∙ swept_more block false marks below

-- where the first marks are away, the bytes under them are zero
pub told_front : (marks : List Bool) (bytes : List ℕ) (count : ℕ) → IsTold marks bytes → marks ≡ swept count false marks → count * 4096 ≤ length bytes → bytes ≡ swept (count * 4096) 0 bytes
told_front marks bytes count told away fits =
    same_number_lists bytes (swept (count * 4096) 0 bytes) (sym (length-swept (count * 4096) 0 bytes fits)) (λ place below.
    ⊎_elim
    (λ (lower : place < count * 4096).
    let block : place / 4096 < count = omega (arith, lower) in
    let off : get_or marks (place / 4096) true ≡ false =
    ap (λ (xs : List Bool). get_or xs (place / 4096) true) away
    ∙ get_or_append_left (replicate count false) (drop count marks) true (place / 4096) (omega (arith, length-replicate {A = Bool} count false, block))
    ∙ get_or-replicate count (place / 4096) false true block
    in
    told place off ∙ sym (get_or_append_left (zeros (count * 4096)) (drop (count * 4096) bytes) 0 place (omega (arith, length-replicate {A = ℕ} (count * 4096) 0, lower)) ∙ told_zeros (count * 4096) place))
    (λ (upper : count * 4096 ≤ place). sym (swept_read (count * 4096) 0 bytes place 0 upper))
    (cases_lt place (count * 4096)))

-- a run of marks that were away before
pub marks_away : (marks : List Bool) (first count : ℕ) → marks ≡ swept first false marks → take count (drop first marks) ≡ replicate count false → marks ≡ swept (first + count) false marks
marks_away marks first count away there =
    away
    ∙ ap (λ (xs : List Bool). replicate first false ++ xs) (sym (take-append-drop count (drop first marks)) ∙ ap (λ (xs : List Bool). xs ++ drop count (drop first marks)) there)
    ∙ sym (append_assoc (replicate first false) (replicate count false) (drop count (drop first marks)))
    ∙ ap (λ (xs : List Bool). xs ++ drop count (drop first marks)) (replicate-append-replicate first count false)
    ∙ ap (λ (xs : List Bool). replicate (first + count) false ++ xs) (drop-drop count first marks)

-- a page without a mark
pub page_marks : (marks : List Bool) (page : ℕ) → marks ≡ swept (page * 16) false marks → take 16 (drop (page * 16) marks) ≡ replicate 16 false → marks ≡ swept ((page + 1) * 16) false marks
page_marks marks page away there =
    let next : page * 16 + 16 ≡ (page + 1) * 16 = omega arith in
    marks_away marks (page * 16) 16 away there ∙ ap (λ (n : ℕ). swept n false marks) next

pub page_bytes : (marks : List Bool) (bytes : List ℕ) (page : ℕ) → IsTold marks bytes → marks ≡ swept (page * 16) false marks → take 16 (drop (page * 16) marks) ≡ replicate 16 false → page * 65536 + 65536 ≤ length bytes → bytes ≡ swept ((page + 1) * 65536) 0 bytes
page_bytes marks bytes page told away there fits =
    let wide : (page + 1) * 16 * 4096 ≡ (page + 1) * 65536 = omega arith in
    told_front marks bytes ((page + 1) * 16) told (page_marks marks page away there) (omega (arith, fits)) ∙ ap (λ (n : ℕ). swept n 0 bytes) wide

-- what was swept further at once may be told of what was swept before
pub swept_again : {X : Type 0} (n m : ℕ) (blank : X) (first before now : List X) → before ≡ swept n blank first → now ≡ swept m blank before → n ≤ m → n ≤ length first → now ≡ swept m blank first
swept_again {X = X} n m blank first before now so_far step more within =
    let rest : m - n + n ≡ m = omega (arith, more) in
    let there : n + (m - n) ≡ m = omega (arith, more) in
    step
    ∙ ap (λ (xs : List X). replicate m blank ++ drop m xs) so_far
    ∙ ap (λ (k : ℕ). replicate m blank ++ drop k (swept n blank first)) (sym there)
    ∙ ap (λ (xs : List X). replicate m blank ++ xs) (sym (drop-drop (m - n) n (swept n blank first)) ∙ ap (λ (xs : List X). drop (m - n) xs) (drop_at (replicate n blank) (drop n first) n (length-replicate n blank)) ∙ drop-drop (m - n) n first)
    ∙ ap (λ (k : ℕ). replicate m blank ++ drop k first) there

-- what the marks tell after a rinse
pub told_swept : (marks : List Bool) (bytes : List ℕ) (count : ℕ) → IsTold marks bytes → IsTold (swept count false marks) (swept (count * 4096) 0 bytes)
told_swept marks bytes count told place off =
    ⊎_elim
    (λ (below : place < count * 4096).
    get_or_append_left (zeros (count * 4096)) (drop (count * 4096) bytes) 0 place (omega (arith, length-replicate {A = ℕ} (count * 4096) 0, below))
    ∙ told_zeros (count * 4096) place)
    (λ (above : count * 4096 ≤ place).
    let block : count ≤ place / 4096 = omega (arith, above) in
    swept_read (count * 4096) 0 bytes place 0 above
    ∙ told place (sym (swept_read count false marks (place / 4096) true block) ∙ off))
    (cases_lt place (count * 4096))

-- no mark is set, so all is zero
none_set : (marks : List Bool) (block : ℕ) → count_by (λ (mark : Bool). mark) marks ≡ 0 → block < length marks → get_or marks block true ≡ false
none_set marks block none below =
    let least : (if get_or marks block true then 1 else 0) ≤ 0 = subst (λ (n : ℕ). (if get_or marks block true then 1 else 0) ≤ n) none (get_or-le-sum_by (λ (mark : Bool). if mark then 1 else 0) marks block true below) in
    ⊎_elim
    (λ (on : get_or marks block true ≡ true).
    let one : 1 ≤ 0 = subst (λ (mark : Bool). (if mark then 1 else 0) ≤ 0) on least in
    absurd (omega (arith, one)))
    (λ (off : get_or marks block true ≡ false). off)
    (cases_Bool (get_or marks block true))

pub told_clean : (marks : List Bool) (bytes : List ℕ) → IsTold marks bytes → length bytes ≤ length marks * 4096 → count_by (λ (mark : Bool). mark) marks ≡ 0 → bytes ≡ zeros (length bytes)
told_clean marks bytes told fits none =
    same_number_lists bytes (zeros (length bytes)) (sym (length-replicate {A = ℕ} (length bytes) 0)) (λ place below.
    told place (none_set marks (place / 4096) none (omega (arith, fits, below))) ∙ sym (told_zeros (length bytes) place))

pub told_seen : (marks : List Bool) (bytes : List ℕ) (pages : ℕ) (seen : Laid) → record { bytes = bytes; pages = pages } ≡ seen → IsTold marks bytes → length bytes ≤ length marks * 4096 → count_by (λ (mark : Bool). mark) marks ≡ 0 → seen.bytes ≡ zeros (length seen.bytes)
told_seen marks bytes pages seen same told fits none = subst (λ (room : Laid). room.bytes ≡ zeros (length room.bytes)) same (told_clean marks bytes told fits none)

-- zeros are all zero
all_zero : (n : ℕ) → list_all (λ byte. nat_eq byte 0) (zeros n) ≡ true
all_zero zero = refl
all_zero (suc n) = all_zero n

-- the first bytes are told of by the same marks
told_taken : (marks : List Bool) (bytes : List ℕ) (used : ℕ) → IsTold marks bytes → used ≤ length bytes → IsTold marks (take used bytes)
told_taken marks bytes used told fits place off =
    ⊎_elim
    (λ (below : place < used). get_or-take used bytes place 0 below ∙ told place off)
    (λ (past : used ≤ place). get_or_past (take used bytes) place 0 (omega (arith, length-take-le used bytes fits, past)))
    (cases_lt place used)

block_counts : (mark clean : Bool) → (mark ≡ false → clean ≡ true) → (if clean then 0 else 1) ≤ (if mark then 1 else 0)
block_counts true true _ = omega arith
block_counts true false _ = omega arith
block_counts false true _ = omega arith
block_counts false false told = absurd (both_ways false refl (told refl))

-- each block that is not zero is marked
written_set : (marks : List Bool) (bytes : List ℕ) (n : ℕ) → IsTold marks bytes → n ≤ length marks → n * 4096 ≤ length bytes → written n bytes ≤ count_by (λ (mark : Bool). mark) (take n marks)
written_set marks bytes zero told few fits = omega arith
written_set marks bytes (suc n) told few fits =
    let so_far = written_set marks bytes n told (omega (arith, few)) (omega (arith, fits)) in
    let below : n < length marks = omega (arith, few) in
    let there : n * 4096 + 4096 ≤ length bytes = omega (arith, fits) in
    let next : n + 1 ≡ suc n = omega arith in
    let more = sum_by_more (λ (mark : Bool). if mark then 1 else 0) marks n true below in
    let counted : count_by (λ (mark : Bool). mark) (take (suc n) marks) ≡ count_by (λ (mark : Bool). mark) (take n marks) + (if get_or marks n true then 1 else 0) =
    ap (λ (k : ℕ). count_by (λ (mark : Bool). mark) (take k marks)) (sym next) ∙ more
    in
    let clean : get_or marks n true ≡ false → list_all (λ byte. nat_eq byte 0) (bytes_at bytes (n * 4096) 4096) ≡ true =
    λ off. ap (λ (xs : List ℕ). list_all (λ byte. nat_eq byte 0) xs) (told_block marks bytes n 4096 told refl there off) ∙ all_zero 4096
    in
    let one = block_counts (get_or marks n true) (list_all (λ byte. nat_eq byte 0) (bytes_at bytes (n * 4096) 4096)) clean in
    omega (arith, so_far, counted, one)

pub written_marked : (marks : List Bool) (bytes : List ℕ) (pages result : ℕ) (seen : Laid) → record { bytes = bytes; pages = pages } ≡ seen → IsTold marks bytes → length bytes ≤ length marks * 4096 → count_by (λ (mark : Bool). mark) marks ≡ result → (used : ℕ) → used ≤ length seen.bytes → written (used / 4096) (take used seen.bytes) ≤ result
written_marked marks bytes pages result seen same told room counted used fits =
    let there : used ≤ length bytes = subst (λ (r : Laid). used ≤ length r.bytes) (sym same) fits in
    let long = length-take-le used bytes there in
    let most = written_set marks (take used bytes) (used / 4096) (told_taken marks bytes used told there) (omega (arith, there, room)) (omega (arith, long)) in
    let all = sum_by-take-le (λ (mark : Bool). if mark then 1 else 0) marks (used / 4096) in
    subst (λ (r : Laid). written (used / 4096) (take used r.bytes) ≤ result) same (omega (arith, most, all, counted))
