pub mod Programs
mod Spelt
