-- What bytes spell a body, and with which number and at which place bytes are refused as one (WebAssembly Core 1.0, sections 5.4 and 5.5.13).
use Rattle.std.specs.Prelude.{◌≡◌, ◌⊎◌, ℕ, suc, zero, List, [], ◌∷◌, ◌++◌, length, Option, Some, None, Result, Ok, Err}
use Rattle.wasm_ops.specs.declared.faults.Fault.{Fault}
use Rattle.wasm_ops.specs.declared.faults.Refusal.TheVariants.{CutShort}
use Rattle.wasm_ops.specs.declared.modules.Body.{Body}
use Rattle.wasm_ops.specs.declared.operators.Op.TheVariants as op
use Rattle.wasm_ops.specs.declared.types.ValType.{ValType}
use Rattle.wasm_ops.specs.Input.{Input, cut_short}
use Rattle.wasm_ops.specs.Sequence.{Sequence, Done, Plain, InBlock, InLoop, InIf, InIfElse, IsNested, flat_body}
use Rattle.wasm_ops.specs.declared.faults.Refusal.TheVariants as refusal
use Rattle.wasm_ops.specs.Refusals.{fault_at}
use Rattle.wasm_code.specs.declared.items.Item.{Item}
use Rattle.wasm_code.specs.declared.items.Item.TheVariants as item
use Rattle.wasm_code.specs.declared.items.Opener.TheVariants as opener
use Rattle.wasm_code.specs.declared.items.Kind.{Kind}
use Rattle.wasm_code.specs.declared.items.Kind.TheVariants as kind
use Rattle.wasm_code.specs.Reading.{Read}
use Rattle.wasm_code.specs.Items.{Parsed, ReadsItem, RefusesItem, item_from}
use Rattle.wasm_code.specs.Locals.{ReadsLocals, RefusesLocals, locals_from}
use Rattle.wasm_code.specs.Laying.{with_items, nothing}

-- the items of a structured sequence in order: what opens a block comes before the items in it, and `end` behind them
abbrev pub items_of : Sequence → List Item
items_of Done = []
items_of (Plain op rest) = item.Operator op ∷ items_of rest
items_of (InBlock result body rest) = item.Opens opener.Block result ∷ (items_of body ++ item.End ∷ items_of rest)
items_of (InLoop result body rest) = item.Opens opener.Loop result ∷ (items_of body ++ item.End ∷ items_of rest)
items_of (InIf result inner rest) = item.Opens opener.If result ∷ (items_of inner ++ item.End ∷ items_of rest)
items_of (InIfElse result inner other rest) =
    item.Opens opener.If result ∷ (items_of inner ++ item.Else ∷ (items_of other ++ item.End ∷ items_of rest))

-- the blocks that are open behind an item, the inmost first, where these are open before it; none where the item may not stand there
abbrev pub open_behind : Item → List Kind → Option (List Kind)
open_behind (item.Operator op) blocks = Some blocks
open_behind (item.Opens opener.Block result) blocks = Some (kind.Block ∷ blocks)
open_behind (item.Opens opener.Loop result) blocks = Some (kind.Loop ∷ blocks)
open_behind (item.Opens opener.If result) blocks = Some (kind.Then ∷ blocks)
open_behind item.Else (kind.Then ∷ blocks) = Some (kind.Else ∷ blocks)
open_behind item.Else blocks = None
open_behind item.End [] = None
open_behind item.End (inmost ∷ blocks) = Some blocks

-- a place between two items: the blocks that are open, the labels of the `br_table`s so far, and what lies ahead
pub record Place : Type 0 where
  pub blocks : List Kind
  pub targets : List ℕ
  pub ahead : Input

-- one item leads from a place to another
pub record Passes (here : Place) (passed : Item) (there : Place) : Type 0 where
  pub spelt : ReadsItem (length here.blocks) here.targets here.ahead (passed, there.targets) there.ahead
  pub stands : open_behind passed here.blocks ≡ Some there.blocks

-- the bytes from a place to another are cut into the spellings of these items
abbrev pub AreCut : List Item → (here there : Place) → Type 0
AreCut [] here there = here ≡ there
AreCut (passed ∷ items) here there = (next : Place) × Passes here passed next × AreCut items next there

-- the place before all bytes, and the one before the first item
abbrev pub beginning : List ℕ → Input
beginning bytes = record { at = 0; left = bytes; cut = CutShort }

abbrev pub first_place : Input → Place
first_place start = record { blocks = []; targets = []; ahead = start }

-- Locals, then the items of a structured sequence, then the closing `end` where no block is open, and no byte behind it.
-- That no block is open there, and that no operator of its own opens or closes one, follows from the rest: it is told for those who use it.
pub record SpellsBody (bytes : List ℕ) (body : Body) : Type 0 where
  pub start : Input
  pub sequence : Sequence
  pub last : Place
  pub after : Input
  pub locals : ReadsLocals (beginning bytes) body.locals start
  pub cut : AreCut (items_of sequence) (first_place start) last
  pub no_block : last.blocks ≡ []
  pub closed : ReadsItem (length last.blocks) last.targets last.ahead (item.End, body.targets) after
  pub whole : after.left ≡ []
  pub nested : IsNested sequence
  pub laid_out : body.ops ≡ flat_body sequence

-- `else` where no `if` is the inmost block, or one that has its `else` already
pub record Misplaced (here : Place) (fault : Fault) : Type 0 where
  pub targets : List ℕ
  pub after : Input
  pub spelt : ReadsItem (length here.blocks) here.targets here.ahead (item.Else, targets) after
  pub no_if : open_behind item.Else here.blocks ≡ None
  pub told : fault ≡ fault_at refusal.BadNesting here.ahead.at

-- bytes behind the `end` that closes the body
pub record Remains (here : Place) (fault : Fault) : Type 0 where
  pub targets : List ℕ
  pub after : Input
  pub byte : ℕ
  pub rest : List ℕ
  pub no_block : here.blocks ≡ []
  pub spelt : ReadsItem (length here.blocks) here.targets here.ahead (item.End, targets) after
  pub more : after.left ≡ byte ∷ rest
  pub told : fault ≡ fault_at refusal.RestAfterEnd after.at

-- the item that would come next is refused
abbrev pub RefusesNext : (here : Place) (fault : Fault) → Type 0
RefusesNext here fault =
    RefusesItem (length here.blocks) here.targets here.ahead fault ⊎ (Misplaced here fault ⊎ Remains here fault)

-- all items before the one at hand are spelt, and this one is refused
pub record RefusesItems (bytes : List ℕ) (fault : Fault) : Type 0 where
  pub all : List ValType
  pub start : Input
  pub items : List Item
  pub here : Place
  pub locals : ReadsLocals (beginning bytes) all start
  pub cut : AreCut items (first_place start) here
  pub refused : RefusesNext here fault

-- the bytes are refused as a body, with the fault's number at its place
abbrev pub RefusesBody : (bytes : List ℕ) (fault : Fault) → Type 0
RefusesBody bytes fault = RefusesLocals (beginning bytes) fault ⊎ RefusesItems bytes fault

-- The same as a function.

-- the items of a body with its labels, or the first fault
abbrev pub Walked : Type 0
Walked = Result (List Item × List ℕ) Fault

-- where the `end` of the body was read, with what is left behind it
abbrev pub at_the_end : List Item → (targets : List ℕ) → (after : Input) → (left : List ℕ) → Walked
at_the_end items targets after [] = Ok (items, targets)
at_the_end items targets after (byte ∷ rest) = Err (fault_at refusal.RestAfterEnd after.at)

-- behind an item that stands in no open block: it is the body's own `end`, or it is misplaced
abbrev pub walk_ends : Item → List Item → (here : Place) → (targets : List ℕ) → (after : Input) → Walked
walk_ends item.End items here targets after = at_the_end items targets after after.left
walk_ends passed items here targets after = Err (fault_at refusal.BadNesting here.ahead.at)

-- behind an item, where these blocks are open behind it
abbrev pub walk_behind
    : Option (List Kind) → Parsed → (after : Input) → List Item → (here : Place) → (next : List Item → Place → Walked) → Walked
walk_behind (Some blocks) parsed after items here next =
    next (items ++ parsed.0 ∷ []) (record { blocks = blocks; targets = parsed.1; ahead = after })
walk_behind None parsed after items here next = walk_ends parsed.0 items here parsed.1 after

abbrev pub walk_at : Read Parsed → List Item → (here : Place) → (next : List Item → Place → Walked) → Walked
walk_at (Ok read) items here next = walk_behind (open_behind read.0.0 here.blocks) read.0 read.1 items here next
walk_at (Err fault) items here next = Err fault

-- behind these items, with fewer than so many to come: each of them takes a byte, so the number of bytes that are left is one less than enough
abbrev pub walk_from : (most : ℕ) → List Item → Place → Walked
walk_from zero items here = Err (cut_short here.ahead)
walk_from (suc most) items here =
    walk_at (item_from (length here.blocks) here.targets here.ahead) items here (λ more there. walk_from most more there)

abbrev pub with_walked : List ValType → Walked → Result Body Fault
with_walked locals (Ok walked) = Ok (record { locals = locals; ops = (with_items walked.0 nothing).ops ++ op.End ∷ []; targets = walked.1 })
with_walked locals (Err fault) = Err fault

abbrev pub behind_locals : Read (List ValType) → Result Body Fault
behind_locals (Ok read) = with_walked read.0 (walk_from (suc (length read.1.left)) [] (first_place read.1))
behind_locals (Err fault) = Err fault

-- the body that the bytes spell, or the fault that they are refused with
unfoldable pub body_from : List ℕ → Result Body Fault
body_from bytes = behind_locals (locals_from (beginning bytes))
