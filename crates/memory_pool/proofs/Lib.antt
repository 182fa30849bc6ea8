pub mod Keeping
pub mod Handing
pub mod Rows
pub mod Ending
