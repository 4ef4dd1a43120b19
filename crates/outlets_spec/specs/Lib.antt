pub mod Outlets
pub mod Means
pub mod Door
pub mod Trials
pub mod Bytes
