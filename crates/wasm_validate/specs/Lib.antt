pub mod Measured
pub mod Outcome
pub mod Results
pub mod Names
