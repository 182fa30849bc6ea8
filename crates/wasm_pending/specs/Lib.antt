pub mod Frames
pub mod Goals
pub mod Steps
pub mod Typed
