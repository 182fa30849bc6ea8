pub mod Places
pub mod Notes
pub mod Entries
pub mod Walks
pub mod Finding
pub mod Keeping
pub mod Returning
