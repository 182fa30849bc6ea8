pub mod Configuration
pub mod Generator
pub mod Modules
pub mod Requests
pub mod Recording
pub mod Asked
