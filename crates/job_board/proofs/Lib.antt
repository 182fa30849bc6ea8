pub mod Codes
pub mod Standing
pub mod Stepping
pub mod Putting
pub mod Opening
pub mod Closing
