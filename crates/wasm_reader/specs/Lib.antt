pub mod Bodies
pub mod Contents
pub mod Imports
pub mod Modules
pub mod Parts
pub mod Sections
pub mod Structure
pub mod Syntax
