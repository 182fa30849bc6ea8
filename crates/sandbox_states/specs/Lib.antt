pub mod Onward
pub mod Paths
pub mod Rests
pub mod Sound
pub mod Stands
pub mod Views
