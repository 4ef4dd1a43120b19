pub mod Total
pub mod Bytes
pub mod Trials
