pub mod Causes
pub mod Trials
pub mod Means
pub mod Bytes
