pub mod Posting
pub mod Collecting
pub mod Rounds
