pub mod Indexes
pub mod Open
pub mod Outcome
pub mod Scopes
pub mod Steps
