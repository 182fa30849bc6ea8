pub mod Services
pub mod Serving
pub mod Calling
pub mod Sessions
pub mod Going
pub mod Servers
