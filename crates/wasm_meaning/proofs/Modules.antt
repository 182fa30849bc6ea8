-- Small modules that the examples are written with.
use Rattle.std.proofs.Common.{ℕ, [], ◌∷◌, List, Option, Some, None, codes}
use Rattle.std.specs.Prelude.{Bool}
use Rattle.wasm_ops.specs.Sequence.{Sequence, flat_body}
use Rattle.wasm_ops.specs.declared.modules.Body.{Body}
use Rattle.wasm_ops.specs.declared.modules.Constant.{Constant}
use Rattle.wasm_ops.specs.declared.modules.Export.{Export}
use Rattle.wasm_ops.specs.declared.modules.Import.{Import}
use Rattle.wasm_ops.specs.declared.modules.ImportItem.{ImportItem}
use Rattle.wasm_ops.specs.declared.modules.Module.{Module}
use Rattle.wasm_ops.specs.declared.types.Access.{Access}
use Rattle.wasm_ops.specs.declared.types.FuncType.{FuncType}
use Rattle.wasm_ops.specs.declared.types.Limits.{Limits}
use Rattle.wasm_ops.specs.declared.types.ValType.{ValType}
use Rattle.wasm_ops.specs.declared.types.ValType.TheVariants.{I32}

abbrev pub bare : FuncType
bare = record { params = []; result = None }

abbrev pub transfer : FuncType
transfer = record { params = I32 ∷ I32 ∷ I32 ∷ I32 ∷ []; result = Some I32 }

abbrev pub body_of : (targets : List ℕ) → Sequence → Body
body_of targets s = record { locals = I32 ∷ []; ops = flat_body s; targets = targets }

abbrev pub start_at : ℕ → List Export
start_at index = record { name = codes "_start"; kind = 0; index = index } ∷ []

abbrev pub from_host : (name : List ℕ) → ImportItem → Import
from_host name it = record { «module» = codes "wasi_snapshot_preview1"; name = name; item = it }

abbrev pub i32 : ℕ → Constant
i32 n = record { value = I32; bits = n }

abbrev pub pages : (least : ℕ) (most : Option ℕ) → List Limits
pages least most = record { least = least; most = most } ∷ []

-- a module of one function, which is `_start`
abbrev pub alone : Sequence → Module
alone s = record {
  types = bare ∷ [];
  imports = [];
  functions = 0 ∷ [];
  tables = [];
  memories = [];
  globals = [];
  exports = start_at 0;
  start = None;
  elements = [];
  bodies = body_of [] s ∷ [];
  segments = [];
}

abbrev pub access : ValType → (width : ℕ) → (signed : Bool) → Access
access value width signed = record { value = value; width = width; signed = signed }
