pub mod Bytes
pub mod Trials
