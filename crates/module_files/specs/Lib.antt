pub mod Accepted
pub mod FilePrograms
pub mod Made
