pub mod Dropping
pub mod Searching
pub mod Returning
pub mod Handing
pub mod Joining
