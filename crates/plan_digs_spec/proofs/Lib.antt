pub mod Refused
pub mod Bytes
pub mod Trials
