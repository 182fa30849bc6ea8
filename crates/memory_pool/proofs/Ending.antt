-- How a pool begins, and the berths that a closed one has.
use Rattle.std.proofs.Common.{◌≡◌, ℕ, zero, suc, ◌+◌, ◌<◌, ◌≤◌, ◌≢◌, Bool, true, false, List, [], ◌∷◌, ◌++◌, map, length, get_or, set, drop, replicate, sym, refl, ap, ◌∙◌, subst, ⊎_elim, arith, append_assoc, length-append, get_or-set_same, get_or-set_other, Option, Some, None, option_to_list}
use Rattle.std.proofs.lemmas.List.{length-map, append-nil}
use mathlib.Core.Logic.{dite}
use native.Mathlib.Decide.{ℕ_discrete}
use mathlib.Core.Option.{some, some-injective, some-ne-none}
use mathlib.Core.Option as logic
use lib.ListN.{get_elem?}
use Rattle.atomic_table.specs.Table.{State, opening, Final, Seen}
use Rattle.atomic_table.proofs.Lists.{at_snoc, drop_at}
use Rattle.view_totals.specs.Totals.{total}
use Rattle.view_totals.proofs.Sums.{total-alone, terms_le}
use Rattle.wasm_store.specs.View.{View, empty}
use Rattle.memory_pool.specs.Pooling.{first_mover, parts_in, taken_in, given_in, moved_at, moves, coming, coming_in, is_full, is_busy, SlotStands, Knows, Pooled}
use Rattle.memory_pool.specs.declared.movers.Mover.{Mover}
use Rattle.memory_pool.specs.declared.movers.Moving.{Moving}
use Rattle.memory_pool.specs.declared.movers.Moving.TheVariants.{Nothing, Taking, Giving}

long_same : {A : Type 0} (n : ℕ) (x : A) → length (replicate n x) ≡ n
long_same zero x = refl
long_same (suc n) x = ap suc (long_same n x)

read_same : (n x place : ℕ) → place < n → get_or (replicate n x) place 0 ≡ x
read_same zero x place inside = absurd (omega arith)
read_same (suc n) x zero inside = refl
read_same (suc n) x (suc place) inside = read_same n x place (omega arith)

home_at : (n place : ℕ) (x : Option View) → place < n → get_elem? (map some (replicate n x)) place ≡ some (some x)
home_at zero place x inside = absurd (omega arith)
home_at (suc n) zero x inside = refl
home_at (suc n) (suc place) x inside = home_at n place x (omega arith)

replicate_suc : {A : Type 0} (n : ℕ) (x : A) → replicate n x ++ x ∷ [] ≡ replicate (suc n) x
replicate_suc zero x = refl
replicate_suc {A} (suc n) x = ap (λ (l : List A). x ∷ l) (replicate_suc n x)

pub replicate_more : {A : Type 0} (n : ℕ) (x : A) → replicate n x ++ x ∷ [] ≡ replicate (n + 1) x
replicate_more n x = let next : suc n ≡ n + 1 = omega arith in replicate_suc n x ∙ ap (λ (k : ℕ). replicate k x) next

all_full : (n : ℕ) → total is_full (replicate n 1) ≡ n
all_full zero = refl
all_full (suc n) = omega (arith, all_full n)

pub starts : (pages n : ℕ) (words : List ℕ) (slots : List (Option View)) → words ≡ replicate n 1 → slots ≡ replicate n (Some (empty pages)) → Pooled pages (opening words slots (first_mover pages))
starts pages n words slots w x =
    let wide : length (map some slots) ≡ n = length-map slots some ∙ (ap length x ∙ long_same n (Some (empty pages))) in
    let mine : Knows pages (first_mover pages) = record { same = λ _. refl; spent = λ none_left. absurd (omega arith) } in
    record {
      wide = ap length w ∙ (long_same {A = ℕ} n 1 ∙ sym wide);
      slots = λ slot inside.
          subst (SlotStands pages (map some slots) (first_mover pages ∷ []) slot) (sym (ap (λ (l : List ℕ). get_or l slot 0) w ∙ read_same n 1 slot (omega (arith, wide)))) record {
            known = omega arith;
            full = λ _. ap (λ (l : List (Option View)). get_elem? (map some l) slot) x ∙ home_at n slot (Some (empty pages)) (omega (arith, wide));
            empty = λ e. absurd (omega arith);
            movers = refl;
          };
      parts = refl;
      seats = λ j v e. ⊎_elim (λ (t : get_elem? [] j ≡ some v). absurd (some-ne-none v (sym t))) (λ t. subst (Knows pages) t mine) (at_snoc [] (first_mover pages) v j e);
      stock = omega (arith, ap length w, long_same {A = ℕ} n 1, ap (total is_full) w, all_full n);
    }

-- those that are there
abbrev pub berths_in : List (Option View) → List View
berths_in [] = []
berths_in (x ∷ xs) = option_to_list x ++ berths_in xs

-- what a word that is not busy tells of its slot
record Tells (pages w : ℕ) (x : logic.Option (Option View)) : Type 0 where
  low : w ≤ 1
  full : w ≡ 1 → x ≡ some (Some (empty pages))
  none : w ≡ 0 → x ≡ some None

one_slot : (pages w : ℕ) (x : Option View) (rest : List View) (n : ℕ) → Tells pages w (some x) → rest ≡ replicate n (empty pages) → option_to_list x ++ rest ≡ replicate (is_full w + n) (empty pages)
one_slot pages zero x rest n t e =
    let is : x ≡ None = some-injective x None (t.none refl) in
    let none : 0 + n ≡ n = omega arith in
    ap (λ (o : Option View). option_to_list o ++ rest) is ∙ (e ∙ ap (λ (k : ℕ). replicate k (empty pages)) (sym none))
one_slot pages (suc zero) x rest n t e =
    let is : x ≡ Some (empty pages) = some-injective x (Some (empty pages)) (t.full refl) in
    let one : 1 + n ≡ suc n = omega arith in
    ap (λ (o : Option View). option_to_list o ++ rest) is ∙ (ap (λ (l : List View). empty pages ∷ l) e ∙ ap (λ (k : ℕ). replicate k (empty pages)) (sym one))
one_slot pages (suc (suc w)) x rest n t e = let low = t.low in absurd (omega arith)

all_slots : (pages : ℕ) (words : List ℕ) (slots : List (Option View)) → length words ≡ length slots → ((i : ℕ) → i < length words → Tells pages (get_or words i 0) (get_elem? slots i)) → berths_in slots ≡ replicate (total is_full words) (empty pages)
all_slots pages [] [] long tells = refl
all_slots pages [] (x ∷ xs) long tells = absurd (omega arith)
all_slots pages (w ∷ ws) [] long tells = absurd (omega arith)
all_slots pages (w ∷ ws) (x ∷ xs) long tells =
    one_slot pages w x (berths_in xs) (total is_full ws) (tells 0 (omega arith)) (all_slots pages ws xs (omega arith) (λ i inside. tells (suc i) (omega arith)))

quiet_word : (w : ℕ) → w ≤ 2 → is_busy w ≡ 0 → w ≤ 1
quiet_word zero known quiet = omega arith
quiet_word (suc zero) known quiet = omega arith
quiet_word (suc (suc zero)) known quiet = absurd (omega arith)
quiet_word (suc (suc (suc w))) known quiet = absurd (omega arith)

-- where one pass has all parts, no slot is busy: as many berths are at home as were given back and not taken, and each is clean
pub record Leaves (pages taken given : ℕ) (slots : List (Option View)) : Type 0 where
  pub count : length (berths_in slots) + taken ≡ given + length slots
  pub clean : berths_in slots ≡ replicate (length (berths_in slots)) (empty pages)

pub closes : (pages id : ℕ) (v : Mover) (words : List ℕ) (slots : List (Option View)) → v.parts ≡ 65536 → v.moving ≡ Nothing → Final (Seen (Pooled pages) id v) words slots → Leaves pages v.taken v.given slots
closes pages id v words slots all idle final =
    let s = final.0 in
    let r = final.1.0 in
    let me = final.1.1 in
    let gone : (j : ℕ) (u : Mover) → j ≢ id → get_elem? s.views j ≡ some u → u.parts ≡ 0 =
    λ j u apart e. omega (arith, terms_le parts_in s.views id j v u apart me e, r.parts, all) in
    let tells : (i : ℕ) → i < length s.words → Tells pages (get_or s.words i 0) (get_elem? slots i) =
    λ i inside.
    let p = r.slots i (omega (arith, r.wide, inside)) in
    let still = total-alone (moves i) s.views id v me (λ j u apart e. ap (moved_at i) ((r.seats j u e).spent (gone j u apart e)).0) in
    record {
      low = quiet_word (get_or s.words i 0) p.known (sym p.movers ∙ (still ∙ ap (moved_at i) idle));
      full = λ e. final.4 i (Some (empty pages)) (p.full e);
      none = λ e. final.4 i None (p.empty e);
    } in
    let long : length s.words ≡ length slots = r.wide ∙ final.3 in
    let are = all_slots pages s.words slots long tells in
    let many : length (berths_in slots) ≡ total is_full s.words = ap length are ∙ long_same (total is_full s.words) (empty pages) in
    record {
      count = omega (
        arith,
        r.stock,
        many,
        long,
        total-alone given_in s.views id v me (λ j u apart e. ((r.seats j u e).spent (gone j u apart e)).3),
        total-alone taken_in s.views id v me (λ j u apart e. ((r.seats j u e).spent (gone j u apart e)).2),
        total-alone coming_in s.views id v me (λ j u apart e. ap coming ((r.seats j u e).spent (gone j u apart e)).0),
        ap coming idle,
      );
      clean = are ∙ ap (λ (k : ℕ). replicate k (empty pages)) (sym many);
    }

pub leaves_as : (pages pages' taken taken' given given' : ℕ) (slots : List (Option View)) → pages ≡ pages' → taken ≡ taken' → given ≡ given' → Leaves pages taken given slots → Leaves pages' taken' given' slots
leaves_as pages pages' taken taken' given given' slots p t g l = record {
  count = omega (arith, l.count, t, g);
  clean = l.clean ∙ ap (λ (k : ℕ). replicate (length (berths_in slots)) (empty k)) p;
}

drop_all : {A : Type 0} (xs : List A) (n : ℕ) → length xs ≤ n → drop n xs ≡ []
drop_all [] zero short = refl
drop_all [] (suc n) short = refl
drop_all (x ∷ xs) zero short = absurd (omega arith)
drop_all (x ∷ xs) (suc n) short = drop_all xs n (omega arith)

pub gathers : (berths berths' : List View) (items : List (Option View)) (i : ℕ) (x : Option View) → berths ++ berths_in (drop i items) ≡ berths_in items → get_elem? items i ≡ some x → berths' ≡ berths ++ option_to_list x → berths' ++ berths_in (drop (i + 1) items) ≡ berths_in items
gathers berths berths' items i x e there pushed =
    let next : i + 1 ≡ suc i = omega arith in
    let rest : berths_in (drop i items) ≡ option_to_list x ++ berths_in (drop (suc i) items) = ap berths_in (drop_at items i x there) in
    ap (λ (n : ℕ). berths' ++ berths_in (drop n items)) next
    ∙ (ap (λ (l : List View). l ++ berths_in (drop (suc i) items)) pushed ∙ (append_assoc berths (option_to_list x) (berths_in (drop (suc i) items)) ∙ (ap (λ (l : List View). berths ++ l) (sym rest) ∙ e)))

pub whole : (berths : List View) (items : List (Option View)) (n : ℕ) → berths ++ berths_in (drop n items) ≡ berths_in items → length items ≤ n → berths ≡ berths_in items
whole berths items n e short = sym (append-nil berths) ∙ (ap (λ (l : List (Option View)). berths ++ berths_in l) (sym (drop_all items n short)) ∙ e)

few_more : (x : Option View) → length (option_to_list x) ≤ 1
few_more None = omega arith
few_more (Some b) = omega arith

pub still_few : (berths berths' : List View) (i : ℕ) (x : Option View) → length berths ≤ i → berths' ≡ berths ++ option_to_list x → length berths' ≤ i + 1
still_few berths berths' i x few e = omega (arith, ap length e, length-append berths (option_to_list x), few_more x)

-- slots that are filled from a place on, and empty below it, where the one at the place is emptied
pub still_filled : (filled : List Bool) (i n : ℕ) → ((k : ℕ) → i ≤ k → k < n → get_or filled k false ≡ true) → (k : ℕ) → i + 1 ≤ k → k < n → get_or (set filled i false) k false ≡ true
still_filled filled i n full k low high = get_or-set_other filled i k false false (λ e. omega arith) ∙ full k (omega arith) high

pub still_empty : (filled : List Bool) (i : ℕ) → i < length filled → ((k : ℕ) → k < i → get_or filled k false ≡ false) → (k : ℕ) → k < i + 1 → get_or (set filled i false) k false ≡ false
still_empty filled i inside empty k low =
    dite (ℕ_discrete k i)
    (λ e. ap (λ (n : ℕ). get_or (set filled i false) n false) e ∙ get_or-set_same filled i false false inside)
    (λ ne. get_or-set_other filled i k false false ne ∙ empty k (omega arith))
