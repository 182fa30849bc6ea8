-- What holds of each module, and of each body, that was read from bytes, before it is typed (WebAssembly Core 1.0, sections 2.2 to 2.5 and 5.4).
use Rattle.std.specs.Prelude.{◌≡◌, ◌⊎◌, ℕ, ◌+◌, ◌*◌, ◌^◌, ◌<◌, ◌≤◌, true, false, length}
use Rattle.std.specs.List.{AllByRecursion}
use Rattle.wasm_ops.specs.declared.modules.Body.{Body}
use Rattle.wasm_ops.specs.declared.modules.ByteSegment.{ByteSegment}
use Rattle.wasm_ops.specs.declared.modules.Constant.{Constant}
use Rattle.wasm_ops.specs.declared.modules.ElementSegment.{ElementSegment}
use Rattle.wasm_ops.specs.declared.modules.Export.{Export}
use Rattle.wasm_ops.specs.declared.modules.GlobalDef.{GlobalDef}
use Rattle.wasm_ops.specs.declared.modules.Import.{Import}
use Rattle.wasm_ops.specs.declared.modules.ImportItem.{ImportItem}
use Rattle.wasm_ops.specs.declared.modules.ImportItem.TheVariants as item
use Rattle.wasm_ops.specs.declared.modules.Module.{Module}
use Rattle.wasm_ops.specs.declared.operators.Op.{Op}
use Rattle.wasm_ops.specs.declared.operators.Op.TheVariants as op
use Rattle.wasm_ops.specs.declared.types.Access.{Access}
use Rattle.wasm_ops.specs.declared.types.FuncType.{FuncType}
use Rattle.wasm_ops.specs.declared.types.Limits.{Limits}
use Rattle.wasm_ops.specs.declared.types.ValType.TheVariants.{I32, I64}
use Rattle.wasm_ops.specs.Limits.{most_types, most_parameters, most_functions, most_globals, most_elements, most_kind, most_locals, most_targets, imported_functions, imported_globals}
use Rattle.wasm_ops.specs.Nested.{IsBodyOf}
use Rattle.wasm_ops.specs.Operations.{IsOfOne, IsOfTwo}
use Rattle.wasm_ops.specs.Sequence.{Sequence}
use Rattle.wasm_ops.specs.Values.{bits_of, IsOfType}

-- Bodies.

-- so many bytes may be moved
abbrev pub IsWidth : ℕ → Type 0
IsWidth width = (width ≡ 1) ⊎ ((width ≡ 2) ⊎ ((width ≡ 4) ⊎ (width ≡ 8)))

-- the value has the bytes that are moved, and their sign is repeated only where it has more
pub record IsAccess (access : Access) : Type 0 where
  pub width : IsWidth access.width
  pub within : 8 * access.width ≤ bits_of access.value
  pub signed : access.signed ≡ true → 8 * access.width < bits_of access.value

-- the labels of a `br_table` and its default stand among so many targets, and are not too many
pub record IsTable (targets from count : ℕ) : Type 0 where
  pub within : from + count < targets
  pub few : count ≤ most_targets

-- the parts of the operator are what they may be, in a body with so many targets
abbrev pub IsOperator : (targets : ℕ) → Op → Type 0
IsOperator targets (op.BrTable from count) = IsTable targets from count
IsOperator targets (op.Load access align offset) = IsAccess access
IsOperator targets (op.Store access align offset) = IsAccess access × (access.signed ≡ false)
IsOperator targets (op.ConstI32 n) = IsOfType I32 n
IsOperator targets (op.ConstI64 n) = IsOfType I64 n
IsOperator targets (op.Unary byte) = IsOfOne byte
IsOperator targets (op.Binary byte) = IsOfTwo byte
IsOperator targets o = Unit {0}

-- the body of a function that was read
pub record IsWellFormedBody (body : Body) : Type 0 where
  pub sequence : Sequence
  pub stands : IsBodyOf sequence body.ops
  pub operators : AllByRecursion (IsOperator (length body.targets)) body.ops
  pub few_operators : length body.ops < 2 ^ 32
  pub few_targets : length body.targets < 2 ^ 32
  pub few_locals : length body.locals ≤ most_locals

-- Modules.

-- the constant's number is one of its type
abbrev pub IsConstant : Constant → Type 0
IsConstant constant = IsOfType constant.value constant.bits

-- the least size of a table is not too large
abbrev pub IsTableSize : Limits → Type 0
IsTableSize size = size.least ≤ most_elements

abbrev pub IsImportItem : ImportItem → Type 0
IsImportItem (item.Table size) = IsTableSize size
IsImportItem i = Unit {0}

abbrev pub IsImport : Import → Type 0
IsImport imported = IsImportItem imported.item

abbrev pub IsFunctionType : FuncType → Type 0
IsFunctionType type = length type.params ≤ most_parameters

abbrev pub IsGlobal : GlobalDef → Type 0
IsGlobal global = IsConstant global.first

abbrev pub IsExport : Export → Type 0
IsExport exported = exported.kind ≤ most_kind

pub record IsElementSegment (segment : ElementSegment) : Type 0 where
  pub offset : IsConstant segment.offset
  pub few : length segment.functions < 2 ^ 32

pub record IsByteSegment (segment : ByteSegment) : Type 0 where
  pub offset : IsConstant segment.offset
  pub few : length segment.bytes < 2 ^ 32

-- the parts of a module that was read: each item is what it may be
pub record HasItems (m : Module) : Type 0 where
  pub types : AllByRecursion IsFunctionType m.types
  pub imports : AllByRecursion IsImport m.imports
  pub tables : AllByRecursion IsTableSize m.tables
  pub globals : AllByRecursion IsGlobal m.globals
  pub exports : AllByRecursion IsExport m.exports
  pub elements : AllByRecursion IsElementSegment m.elements
  pub bodies : AllByRecursion IsWellFormedBody m.bodies
  pub segments : AllByRecursion IsByteSegment m.segments

-- and each list is within its limit; those that have none of their own are counted by 32 bits
pub record IsWithinLimits (m : Module) : Type 0 where
  pub types : length m.types ≤ most_types
  pub imports : length m.imports < 2 ^ 32
  pub functions : imported_functions m.imports + length m.functions ≤ most_functions
  pub tables : length m.tables < 2 ^ 32
  pub memories : length m.memories < 2 ^ 32
  pub globals : imported_globals m.imports + length m.globals ≤ most_globals
  pub exports : length m.exports < 2 ^ 32
  pub elements : length m.elements < 2 ^ 32
  pub segments : length m.segments < 2 ^ 32

-- a module that was read
pub record IsWellFormed (m : Module) : Type 0 where
  pub items : HasItems m
  pub limits : IsWithinLimits m
  pub as_many_bodies : length m.bodies ≡ length m.functions
