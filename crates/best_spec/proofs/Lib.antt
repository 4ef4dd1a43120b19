pub mod Means
pub mod Bytes
pub mod Trials
