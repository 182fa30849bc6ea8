pub mod PieceLaws
pub mod Streams
