pub mod Causes
pub mod Means
pub mod Trials
