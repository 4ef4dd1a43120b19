pub mod Trials
pub mod Causes
pub mod Means
pub mod Bytes
