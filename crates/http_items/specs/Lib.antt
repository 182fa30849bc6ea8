pub mod Refusals
pub mod Readers
pub mod Heads
pub mod Targets
pub mod Headings
pub mod Items
pub mod Standings
pub mod Ends
