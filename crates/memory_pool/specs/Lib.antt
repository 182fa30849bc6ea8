pub mod Pooling
pub mod Moves
pub mod Passing
pub mod Giving
