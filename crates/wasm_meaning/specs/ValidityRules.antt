-- The number that stands for each rule of validation.
use Rattle.std.specs.Prelude.{ℕ}
use Rattle.wasm_meaning.specs.declared.violations.Rule.{Rule}
use Rattle.wasm_meaning.specs.declared.violations.Rule.TheVariants.{UnknownIndex, OperandType, StackHeight, BadAlign, LabelDepth, IfWithoutElse, ImmutableGlobal, DoubleExport, TwoMemories, TwoTables, MemoryLimits, StartType, BranchTypes, ConstantType}

abbrev pub rule_number : Rule → ℕ
rule_number UnknownIndex = 30
rule_number OperandType = 31
rule_number StackHeight = 32
rule_number BadAlign = 33
rule_number LabelDepth = 34
rule_number IfWithoutElse = 35
rule_number ImmutableGlobal = 36
rule_number DoubleExport = 37
rule_number TwoMemories = 38
rule_number TwoTables = 39
rule_number MemoryLimits = 40
rule_number StartType = 41
rule_number BranchTypes = 42
rule_number ConstantType = 43
