pub mod Calls
pub mod Marks
pub mod Memory
pub mod Stacks
pub mod View
