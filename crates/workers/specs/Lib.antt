pub mod Batches
pub mod Outcomes
pub mod Tasks
pub mod Workshops
