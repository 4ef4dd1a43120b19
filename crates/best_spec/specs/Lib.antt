pub mod Best
pub mod Door
pub mod Means
pub mod Bytes
pub mod Trials
