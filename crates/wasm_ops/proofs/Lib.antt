mod NumberExamples
mod SequenceExamples
pub mod Answers
pub mod ByteLaws
pub mod InputLaws
pub mod NameLaws
pub mod NestedLaws
pub mod NumberLaws
pub mod NumberSteps
pub mod Powers
mod OperandCounts
mod Rotations
mod TrapLaws
