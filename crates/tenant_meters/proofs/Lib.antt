pub mod Histories
pub mod Limits
pub mod Asking
pub mod Knowing
pub mod Chaining
pub mod Visiting
