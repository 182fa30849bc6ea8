pub mod Deliveries
pub mod FileLemmas
pub mod ShelfAnswers
pub mod Streams
pub mod ToldFiles
