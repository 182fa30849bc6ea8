-- The bytes that spell a recording. A number is 32 bits wide, and stands in four bytes, the lowest first.
use Rattle.std.specs.Prelude.{ℕ, List, [], ◌∷◌, ◌++◌, length}
use Rattle.std.specs.List.{flat_map}
use Rattle.std.specs.Int.{w32, to_le_bytes}
use Rattle.recording_format.specs.declared.records.Event.{Event}
use Rattle.recording_format.specs.declared.records.Event.TheVariants.{Begins, Arrives, Closes}
use Rattle.recording_format.specs.declared.records.Record.{Record}

-- SLR1
abbrev pub magic : List ℕ
magic = 0x53 ∷ 0x4C ∷ 0x52 ∷ 0x31 ∷ []

-- the byte of a record's kind; 0 is that of the end
abbrev pub kind_of : Event → ℕ
kind_of (Begins tenant) = 1
kind_of (Arrives piece) = 2
kind_of Closes = 3

-- what stands behind the moment and the link
abbrev pub contents_of : Event → List ℕ
contents_of (Begins tenant) = to_le_bytes w32 tenant
contents_of (Arrives piece) = to_le_bytes w32 (length piece) ++ piece
contents_of Closes = []

abbrev pub record_spelling : Record → List ℕ
record_spelling r = kind_of r.event ∷ (to_le_bytes w32 r.moment ++ (to_le_bytes w32 r.link ++ contents_of r.event))

-- the magic, the records in order, and the end
abbrev pub spelling : List Record → List ℕ
spelling records = magic ++ (flat_map record_spelling records ++ 0 ∷ [])
