mod BodySteps
mod ExportSteps
mod Keys
mod Least
pub mod Loops
mod Results
mod Twins
