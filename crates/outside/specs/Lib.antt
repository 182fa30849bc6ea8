pub mod Counted
pub mod Faults
pub mod Library
pub mod Page
pub mod Shelf
pub mod Sink
