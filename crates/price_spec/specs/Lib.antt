pub mod Quote
pub mod Means
pub mod Breaking
pub mod BreakingMeans
pub mod Door
pub mod Bytes
pub mod Trials
pub mod BreakingTrials
