pub mod Reply
pub mod Reported
pub mod Views
pub mod Searches
