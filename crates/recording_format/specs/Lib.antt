pub mod Refusals
pub mod Standing
pub mod Following
pub mod Spelling
pub mod Looks
pub mod Recorded
pub mod Faults
pub mod Connections
