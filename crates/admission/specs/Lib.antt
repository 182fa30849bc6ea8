pub mod Bucket
pub mod Metering
