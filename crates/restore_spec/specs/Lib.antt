pub mod Restoring
pub mod Bytes
pub mod Trials
