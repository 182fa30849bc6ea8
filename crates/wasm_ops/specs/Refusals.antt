-- The number of each refusal of bytes. They are this project's own (WebAssembly Core 1.0, section 7.3, leaves to each implementation how it reports).
use Rattle.std.specs.Prelude.{ℕ}
use Rattle.wasm_ops.specs.declared.faults.Fault.{Fault}
use Rattle.wasm_ops.specs.declared.faults.Refusal.{Refusal}
use Rattle.wasm_ops.specs.declared.faults.Refusal.TheVariants.{CutShort, LebTooLong, LebSpare, NotUtf8, FloatOperator, UnknownOperator, FloatType, BadType, BadNesting, TooDeep, TooManyLocals, TooManyTargets, Reserved, RestAfterEnd, BadMagic, BadVersion, SectionOrder, SectionSize, UnknownSection, CountsDiffer, TooLarge, BadKind, BadLimits, BadConstant}

abbrev pub number_of : Refusal → ℕ
number_of CutShort = 1
number_of LebTooLong = 2
number_of LebSpare = 3
number_of NotUtf8 = 4
number_of FloatOperator = 5
number_of UnknownOperator = 6
number_of FloatType = 7
number_of BadType = 8
number_of BadNesting = 9
number_of TooDeep = 10
number_of TooManyLocals = 11
number_of TooManyTargets = 12
number_of Reserved = 13
number_of RestAfterEnd = 14
number_of BadMagic = 15
number_of BadVersion = 16
number_of SectionOrder = 17
number_of SectionSize = 18
number_of UnknownSection = 19
number_of CountsDiffer = 20
number_of TooLarge = 21
number_of BadKind = 22
number_of BadLimits = 23
number_of BadConstant = 24

-- the bytes are refused for this reason, at a place
abbrev pub fault_at : (refusal : Refusal) (place : ℕ) → Fault
fault_at refusal place = record { number = number_of refusal; place = place }
