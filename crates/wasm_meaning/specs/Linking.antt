-- Whether a module is linked to the host, and what refuses it first (WebAssembly Core 1.0, sections 4.5.2 and 4.5.4, and WASI preview1). That a program has limits of pages is this project's own.
use Rattle.std.specs.Prelude.{ℕ, ◌+◌, ◌*◌, ◌==◌, nat_lt, not, Bool, true, false, ◌&&◌, List, [], ◌∷◌, length, codes, bytes_eq, if◌then◌else◌, Option, Some, None, option_map, unwrap_or, slice_get}
use Rattle.wasm_ops.specs.declared.host_calls.HostName.{HostName}
use Rattle.wasm_ops.specs.declared.host_calls.HostName.TheVariants.{FdRead, FdWrite, ProcExit}
use Rattle.wasm_ops.specs.declared.modules.ByteSegment.{ByteSegment}
use Rattle.wasm_ops.specs.declared.modules.ElementSegment.{ElementSegment}
use Rattle.wasm_ops.specs.declared.modules.Export.{Export}
use Rattle.wasm_ops.specs.declared.modules.Import.{Import}
use Rattle.wasm_ops.specs.declared.modules.ImportItem.{ImportItem}
use Rattle.wasm_ops.specs.declared.modules.ImportItem.TheVariants as item
use Rattle.wasm_ops.specs.declared.modules.Module.{Module}
use Rattle.wasm_ops.specs.declared.types.FuncType.{FuncType}
use Rattle.wasm_ops.specs.declared.types.Limits.{Limits}
use Rattle.wasm_meaning.specs.declared.links.LinkRule.{LinkRule}
use Rattle.wasm_meaning.specs.declared.links.LinkRule.TheVariants.{UnknownImport, ImportType, ImportKind, NoStart, StartShape, SegmentRange, TooManyPages}
use Rattle.wasm_meaning.specs.declared.links.Unlinked.{Unlinked}
use Rattle.wasm_meaning.specs.Bytes.{page}
use Rattle.wasm_meaning.specs.Control.{same_function_type}
use Rattle.wasm_meaning.specs.HostCalls.{host_type}
use Rattle.wasm_meaning.specs.Validity.{is_bare}
use Rattle.wasm_meaning.specs.ValiditySpaces.{function_type}

-- the first refusal that is there
abbrev pub first_of_all : List (Option Unlinked) → Option Unlinked
first_of_all [] = None
first_of_all (None ∷ others) = first_of_all others
first_of_all (Some why ∷ others) = Some why

abbrev pub told_at : (at : ℕ) → Option LinkRule → Option Unlinked
told_at at rule = option_map (λ r. record { rule = r; item = at }) rule

-- the first item of a list that breaks a rule, from a place on
abbrev pub first_refused : {A : Type 0} → (A → Option LinkRule) → (at : ℕ) → List A → Option Unlinked
first_refused refuses at [] = None
first_refused refuses at (x ∷ xs) = first_of_all (told_at at (refuses x) ∷ first_refused refuses (at + 1) xs ∷ [])

abbrev pub broken_unless : (rule : LinkRule) → Bool → Option LinkRule
broken_unless rule true = None
broken_unless rule false = Some rule

-- Imports.

abbrev pub host_module : List ℕ
host_module = codes "wasi_snapshot_preview1"

-- the function of the host with this name
abbrev pub host_named : List ℕ → Option HostName
host_named name =
    if bytes_eq name (codes "fd_read") then Some FdRead else (
    if bytes_eq name (codes "fd_write") then Some FdWrite else (
    if bytes_eq name (codes "proc_exit") then Some ProcExit else None))

abbrev pub host_in : (from name : List ℕ) → Option HostName
host_in from name = if bytes_eq from host_module then host_named name else None

abbrev pub has_host_type : HostName → Option FuncType → Bool
has_host_type host None = false
has_host_type host (Some type) = same_function_type (host_type host) type

abbrev pub host_refusal : Option HostName → Option FuncType → Option LinkRule
host_refusal None type = Some UnknownImport
host_refusal (Some host) type = broken_unless ImportType (has_host_type host type)

-- an import is a function, one of the host's, and of its type
abbrev pub item_refusal : List FuncType → Option HostName → ImportItem → Option LinkRule
item_refusal types host (item.Function type) = host_refusal host (slice_get types type)
item_refusal types host (item.Table limits) = Some ImportKind
item_refusal types host (item.Memory limits) = Some ImportKind
item_refusal types host (item.Global value mutable) = Some ImportKind

abbrev pub import_refusal : List FuncType → Import → Option LinkRule
import_refusal types import = item_refusal types (host_in import.«module» import.name) import.item

-- Entry.

abbrev pub entry_name : List ℕ
entry_name = codes "_start"

-- the export with this name
abbrev pub export_named : List ℕ → List Export → Option Export
export_named name [] = None
export_named name (export ∷ exports) = if bytes_eq export.name name then Some export else export_named name exports

-- a function of no parameters and no result
abbrev pub is_entry : Module → Export → Bool
is_entry m export = export.kind == 0 && unwrap_or (option_map is_bare (function_type m export.index)) false

abbrev pub entry_refusal : Module → Option Export → Option LinkRule
entry_refusal m None = Some NoStart
entry_refusal m (Some export) = broken_unless StartShape (is_entry m export)

-- Memory and table.

abbrev pub least_of : List Limits → ℕ
least_of [] = 0
least_of (limits ∷ others) = limits.least

-- how many pages the memory has at first, none without a memory; and how many elements the table
abbrev pub first_pages : Module → ℕ
first_pages m = least_of m.memories

abbrev pub first_elements : Module → ℕ
first_elements m = least_of m.tables

abbrev pub element_refusal : (elements : ℕ) → ElementSegment → Option LinkRule
element_refusal elements segment =
    broken_unless SegmentRange (not (nat_lt elements (segment.offset.bits + length segment.functions)))

abbrev pub bytes_refusal : (bytes : ℕ) → ByteSegment → Option LinkRule
bytes_refusal bytes segment = broken_unless SegmentRange (not (nat_lt bytes (segment.offset.bits + length segment.bytes)))

-- Modules.

-- the first refusal of a valid module that is given so many pages, if there is one
unfoldable pub link_refusal : Module → (pages : ℕ) → Option Unlinked
link_refusal m pages =
    first_of_all (
    first_refused (import_refusal m.types) 0 m.imports
    ∷ told_at 0 (entry_refusal m (export_named entry_name m.exports))
    ∷ told_at 0 (broken_unless TooManyPages (not (nat_lt pages (first_pages m))))
    ∷ first_refused (element_refusal (first_elements m)) 0 m.elements
    ∷ first_refused (bytes_refusal (first_pages m * page)) 0 m.segments
    ∷ [])
