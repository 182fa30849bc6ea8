pub mod Words
pub mod Boarding
pub mod Settled
pub mod Ruled
pub mod Steps
pub mod Claiming
pub mod Ends
