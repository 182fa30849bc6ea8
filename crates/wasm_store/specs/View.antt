-- All that a running function has, as contracts see it.
use Rattle.std.specs.Prelude.{ℕ, ◌≡◌, ◌+◌, ◌-◌, Bool, List, [], ◌∷◌, ◌++◌, length, take, drop, map, Option, Some}
use Rattle.wasm_store.specs.Stacks.{cut, kept}
use Rattle.wasm_store.specs.declared.calls.Frame.{Frame}
use Rattle.wasm_store.specs.declared.labels.Label.{Label}

-- The bytes of memory, and how many pages the strip behind it has; globals; the table, with the index of a function or none in each place.
-- Then the cells, with each call's locals and on them its operands; the labels of the open blocks; the frames of the live calls. Of these three the last item comes first.
-- Then the body and the place of the operator that runs next; the cells counted for all live calls; and the bodies that are still to be entered from outside.
pub record View : Type 0 where
  pub memory : List ℕ
  pub pages : ℕ
  pub globals : List ℕ
  pub table : List (Option ℕ)
  pub cells : List ℕ
  pub labels : List Label
  pub frames : List Frame
  pub function : ℕ
  pub place : ℕ
  pub used : ℕ
  pub entries : List ℕ

-- nothing at all, but for a strip of so many pages
abbrev pub empty : (pages : ℕ) → View
empty pages = record {
  memory = [];
  pages = pages;
  globals = [];
  table = [];
  cells = [];
  labels = [];
  frames = [];
  function = 0;
  place = 0;
  used = 0;
  entries = [];
}

-- all is empty; that the whole strip is zero then holds of every vessel
abbrev pub IsClean : View → Type 0
IsClean vessel = vessel ≡ empty vessel.pages

-- the table with these functions one after another from an index on, and else as it was
abbrev pub with_elements : (table : List (Option ℕ)) → (at : ℕ) → (functions : List ℕ) → List (Option ℕ)
with_elements table at functions = take at table ++ (map Some functions ++ drop (at + length functions) table)

-- a call of a body begins: so many cells lie under its first local, and so many are counted from now on
abbrev pub entered : (function base used : ℕ) → View → View
entered function base used vessel = record vessel {
  function = function;
  place = 0;
  used = used;
  frames = record { function = vessel.function; place = vessel.place; base = base; opened = length vessel.labels; below = vessel.used } ∷ vessel.frames;
}

-- a call ends: its cells go, but for its result if there is one, and its labels
abbrev pub returned : (keep : Bool) → Frame → View → View
returned keep frame vessel = record vessel {
  function = frame.function;
  place = frame.place;
  used = frame.below;
  cells = cut (kept keep) frame.base vessel.cells;
  labels = drop (length vessel.labels - frame.opened) vessel.labels;
  frames = drop 1 vessel.frames;
}
