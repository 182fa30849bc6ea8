pub mod Queue
pub mod Serving
pub mod Held
pub mod Drawing
pub mod Counting
