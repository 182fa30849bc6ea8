pub mod Callees
pub mod Keys
pub mod Outcome
pub mod Tabled
