pub mod Generation
pub mod Fitting
pub mod Accepted
pub mod Loads
pub mod Opened
pub mod Arrivals
pub mod Bodies
pub mod Owned
pub mod Paged
pub mod Text
pub mod Heads
pub mod Items
pub mod Pieces
pub mod LoadItems
mod LoadExamples
