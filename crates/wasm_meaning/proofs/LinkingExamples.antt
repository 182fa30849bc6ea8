-- Linking with each of its refusals, and the greatest pages of a program.
use Rattle.std.proofs.Common.{◌≡◌, ℕ, [], ◌∷◌, List, Option, Some, None, codes, refl}
use Rattle.wasm_ops.specs.Sequence.{Done}
use Rattle.wasm_ops.specs.declared.modules.Import.{Import}
use Rattle.wasm_ops.specs.declared.modules.ImportItem.TheVariants as item
use Rattle.wasm_ops.specs.declared.modules.Module.{Module}
use Rattle.wasm_meaning.proofs.Modules.{bare, transfer, start_at, from_host, i32, pages, alone}
use Rattle.wasm_meaning.specs.declared.links.LinkRule.{LinkRule}
use Rattle.wasm_meaning.specs.declared.links.LinkRule.TheVariants.{UnknownImport, ImportType, ImportKind, NoStart, StartShape, SegmentRange, TooManyPages}
use Rattle.wasm_meaning.specs.declared.links.Unlinked.{Unlinked}
use Rattle.wasm_meaning.specs.Linking.{link_refusal}
use Rattle.wasm_meaning.specs.Programs.{most}

abbrev refusal : Module → Option Unlinked
refusal m = link_refusal m 2

abbrev refused : (rule : LinkRule) (item : ℕ) → Option Unlinked
refused rule item = Some (record { rule = rule; item = item })

abbrev importing : List Import → Module
importing imports = record (alone Done) { types = bare ∷ transfer ∷ []; imports = imports; exports = start_at 2 }

linked : refusal (alone Done) ≡ None
unfolding link_refusal
linked = refl

-- the second import is no function, none of the host's, of another module, or of another type; the kind is looked at first
import_kind : refusal (importing (from_host (codes "fd_read") (item.Function 1) ∷ from_host (codes "fd_read") (item.Memory (record { least = 0; most = None })) ∷ [])) ≡ refused ImportKind 1
unfolding link_refusal
import_kind = refl

unknown_import : refusal (importing (from_host (codes "fd_read") (item.Function 1) ∷ from_host (codes "fd_reaD") (item.Function 1) ∷ [])) ≡ refused UnknownImport 1
unfolding link_refusal
unknown_import = refl

other_module : refusal (importing (record { «module» = codes "wasi"; name = codes "fd_read"; item = item.Function 1 } ∷ [])) ≡ refused UnknownImport 0
unfolding link_refusal
other_module = refl

import_type : refusal (importing (from_host (codes "fd_write") (item.Function 1) ∷ from_host (codes "proc_exit") (item.Function 1) ∷ [])) ≡ refused ImportType 1
unfolding link_refusal
import_type = refl

-- no `_start`; a memory of that name; a function that has parameters
no_start : refusal (record (alone Done) { exports = [] }) ≡ refused NoStart 0
unfolding link_refusal
no_start = refl

start_is_no_function : refusal (record (alone Done) { exports = record { name = codes "_start"; kind = 2; index = 0 } ∷ [] }) ≡ refused StartShape 0
unfolding link_refusal
start_is_no_function = refl

start_takes_parameters : refusal (record (alone Done) { types = transfer ∷ [] }) ≡ refused StartShape 0
unfolding link_refusal
start_takes_parameters = refl

-- a memory of as many pages as there are, and of one more
as_many_pages : refusal (record (alone Done) { memories = pages 2 None }) ≡ None
unfolding link_refusal
as_many_pages = refl

too_many_pages : refusal (record (alone Done) { memories = pages 3 None }) ≡ refused TooManyPages 0
unfolding link_refusal
too_many_pages = refl

-- the second segment of each kind passes the end by one; elements are looked at first
abbrev with_elements : (offset : ℕ) → Module
with_elements offset = record (alone Done) {
  tables = pages 3 None;
  elements = record { table = 0; offset = i32 3; functions = [] } ∷ record { table = 0; offset = i32 offset; functions = 0 ∷ 0 ∷ [] } ∷ [];
}

elements_fit : refusal (with_elements 1) ≡ None
unfolding link_refusal
elements_fit = refl

elements_pass_the_end : refusal (record (with_elements 2) { segments = record { memory = 0; offset = i32 1; bytes = [] } ∷ [] }) ≡ refused SegmentRange 1
unfolding link_refusal
elements_pass_the_end = refl

abbrev with_bytes_at : (offset : ℕ) → Module
with_bytes_at offset = record (alone Done) {
  memories = pages 1 None;
  segments = record { memory = 0; offset = i32 65536; bytes = [] } ∷ record { memory = 0; offset = i32 offset; bytes = 1 ∷ 2 ∷ [] } ∷ [];
}

bytes_fit : refusal (with_bytes_at 65534) ≡ None
unfolding link_refusal
bytes_fit = refl

bytes_pass_the_end : refusal (with_bytes_at 65535) ≡ refused SegmentRange 1
unfolding link_refusal
bytes_pass_the_end = refl

-- the greatest pages: what the module asks for, what it is given, and none without a memory
least_of_both : most (record { linked = record (alone Done) { memories = pages 1 (Some 5) }; pages = 7 }) ≡ 5
least_of_both = refl

given_pages : most (record { linked = record (alone Done) { memories = pages 1 None }; pages = 7 }) ≡ 7
given_pages = refl

no_memory : most (record { linked = alone Done; pages = 7 }) ≡ 0
no_memory = refl
