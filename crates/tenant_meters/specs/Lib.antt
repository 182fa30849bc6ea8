pub mod Histories
pub mod Charging
pub mod Ruled
pub mod Steps
pub mod Knowing
pub mod Metered
pub mod Chains
pub mod Visiting
