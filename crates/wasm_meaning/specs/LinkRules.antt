-- The number that stands for each rule of linking.
use Rattle.std.specs.Prelude.{ℕ}
use Rattle.wasm_meaning.specs.declared.links.LinkRule.{LinkRule}
use Rattle.wasm_meaning.specs.declared.links.LinkRule.TheVariants.{UnknownImport, ImportType, ImportKind, NoStart, StartShape, SegmentRange, TooManyPages}

abbrev pub link_number : LinkRule → ℕ
link_number UnknownImport = 50
link_number ImportType = 51
link_number ImportKind = 52
link_number NoStart = 53
link_number StartShape = 54
link_number SegmentRange = 55
link_number TooManyPages = 56
