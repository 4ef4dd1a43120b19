pub mod Causes
pub mod Means
pub mod Bytes
pub mod BreakingMeans
pub mod Trials
