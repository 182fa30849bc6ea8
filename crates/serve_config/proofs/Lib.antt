pub mod Members
mod Arrays
mod Json
mod Literals
mod Seeking
mod Tabling
mod Inserting
mod Making
mod Numbering
mod Places
mod Loadings
mod ToldLoads
pub mod Accepting
