mod BudgetExamples
mod CallExamples
mod ControlExamples
mod DeepCalls
mod Examples
mod HostExamples
mod LinkingExamples
mod MemoryExamples
mod Modules
mod NumericExamples
mod RequestExamples
mod TypingExamples
pub mod TypingLaws
mod ValidityExamples
mod VariableExamples
mod WholeProgram
pub mod Budgets
pub mod Fits
pub mod HostLaws
pub mod MemoryLaws
pub mod ModuleFacts
pub mod Ready
pub mod Related
pub mod RequestLaws
pub mod SafeControl
pub mod SafeInstances
pub mod SafeOperators
pub mod SafePrograms
pub mod SafeRuns
pub mod TurnLaws
