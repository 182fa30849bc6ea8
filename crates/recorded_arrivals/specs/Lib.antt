pub mod Arrivals
pub mod Limits
pub mod Feeding
pub mod Seen
