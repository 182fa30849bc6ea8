-- The labels of the open blocks, from their frames.
use Rattle.std.proofs.Common.{◌≡◌, ℕ, ◌+◌, ◌-◌, ◌<◌, ◌≤◌, List, [], ◌∷◌, ◌++◌, length, get_or, map, reverse, Option, Some, None, refl, ap, sym, ◌∙◌, arith, length-append}
use Rattle.std.specs.Prelude.{slice_get}
use Rattle.std.proofs.lemmas.List.{get_or_append_left, get_or-append_right, get_or-reverse, length-map, length-reverse}
use Rattle.std.proofs.lemmas.Option.{slice_get-get_or, slice_get_past, slice_get-map}
use Rattle.wasm_ops.specs.declared.types.ValType.{ValType}
use Rattle.wasm_meaning.specs.Typing.{label_of}
use Rattle.wasm_meaning.specs.TypingOperands.{Operand}
use Rattle.wasm_typing.specs.declared.frames.Frame.{Frame}
use Rattle.wasm_typing.specs.Open.{Block, blocks_of}
use Rattle.wasm_typing.specs.Scopes.{block_label}

abbrev frame_label : Frame → Option ValType
frame_label f = label_of f.kind f.result

labels_are : (frames : List Frame) (beneath : List Operand) → map block_label (blocks_of frames beneath) ≡ map frame_label frames
labels_are [] beneath = refl
labels_are (f ∷ frames) beneath = ap (λ (labels : List (Option ValType)). frame_label f ∷ labels) (labels_are frames _)

-- an element of the front of a list, and the one behind it
front : {A : Type 0} (xs : List A) (t : A) (n : ℕ) → n < length xs → slice_get (xs ++ t ∷ []) n ≡ slice_get xs n
front xs t n lt =
    let within : n < length (xs ++ t ∷ []) = omega (arith, length-append xs (t ∷ [])) in
    slice_get-get_or (xs ++ t ∷ []) n t within ∙ (ap Some (get_or_append_left xs (t ∷ []) t n lt) ∙ sym (slice_get-get_or xs n t lt))

last : {A : Type 0} (xs : List A) (t : A) (n : ℕ) → n ≡ length xs → slice_get (xs ++ t ∷ []) n ≡ Some t
last xs t n same =
    let within : n < length (xs ++ t ∷ []) = omega (arith, length-append xs (t ∷ [])) in
    let least : length xs ≤ n = omega arith in
    let none : n - length xs ≡ 0 = omega arith in
    slice_get-get_or (xs ++ t ∷ []) n t within ∙ ap Some (get_or-append_right xs (t ∷ []) (length xs) n t refl least ∙ rw none refl)

-- the labels that the blocks around have, where the frames stand in their order of opening
pub count
    : (frames : List Frame) (beneath : List Operand) (around : List Block) (due : Option ValType) → blocks_of (reverse frames) beneath ≡ around
    → length frames + 1 ≡ length (map block_label around ++ due ∷ [])
count frames beneath around due are =
    let labels = labels_are (reverse frames) beneath in
    let same = ap (λ (bs : List Block). map block_label bs) are in
    let length_is = ap (λ (ls : List (Option ValType)). length ls) (sym same ∙ labels) in
    omega (arith, length-append (map block_label around) (due ∷ []), length-map (reverse frames) frame_label, length-reverse frames, length_is)

pub of_block
    : (frames : List Frame) (beneath : List Operand) (around : List Block) (due : Option ValType) (n : ℕ) (d : Frame)
    → blocks_of (reverse frames) beneath ≡ around → n < length frames
    → Some (frame_label (get_or frames (length frames - 1 - n) d)) ≡ slice_get (map block_label around ++ due ∷ []) n
of_block frames beneath around due n d are lt =
    let labels = labels_are (reverse frames) beneath in
    let same = ap (λ (bs : List Block). map block_label bs) are in
    let few : n < length (map frame_label (reverse frames)) = omega (arith, length-map (reverse frames) frame_label, length-reverse frames) in
    let inner : n < length (reverse frames) = omega (arith, length-reverse frames) in
    let found = slice_get-get_or (reverse frames) n d inner in
    let turned = get_or-reverse frames n d lt in
    let here = slice_get-map frame_label (reverse frames) n in
    let before = front (map frame_label (reverse frames)) due n few in
    rw (← same) (rw labels (rw before (rw here (rw found (rw turned refl)))))

pub of_function
    : (frames : List Frame) (beneath : List Operand) (around : List Block) (due : Option ValType) (n : ℕ)
    → blocks_of (reverse frames) beneath ≡ around → n ≡ length frames
    → Some due ≡ slice_get (map block_label around ++ due ∷ []) n
of_function frames beneath around due n are e =
    let labels = labels_are (reverse frames) beneath in
    let same = ap (λ (bs : List Block). map block_label bs) are in
    let at : n ≡ length (map frame_label (reverse frames)) = omega (arith, length-map (reverse frames) frame_label, length-reverse frames) in
    rw (← same) (rw labels (sym (last (map frame_label (reverse frames)) due n at)))

pub of_none
    : (frames : List Frame) (beneath : List Operand) (around : List Block) (due : Option ValType) (n : ℕ)
    → blocks_of (reverse frames) beneath ≡ around → length frames < n
    → None ≡ slice_get (map block_label around ++ due ∷ []) n
of_none frames beneath around due n are past =
    let few = count frames beneath around due are in
    let behind : length (map block_label around ++ due ∷ []) ≤ n = omega arith in
    sym (slice_get_past (map block_label around ++ due ∷ []) n behind)
