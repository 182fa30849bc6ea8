pub mod Belonging
pub mod Walks
