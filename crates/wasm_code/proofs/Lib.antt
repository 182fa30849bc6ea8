mod BodyExamples
pub mod Decisions
pub mod ItemLaws
pub mod ItemFacts
pub mod Halts
pub mod Completions
pub mod LayingLaws
pub mod BodyLaws
pub mod LoopSteps
pub mod PlacedLaws
pub mod ItemSteps
pub mod OperatorSteps
pub mod RefusalPlaces
pub mod BodyAnswers
pub mod FormedBodies
mod FormedLaws
mod FormSteps
