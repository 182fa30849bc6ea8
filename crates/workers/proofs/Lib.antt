pub mod Zips
pub mod Ends
pub mod Opening
pub mod Crossing
