pub mod Districts
pub mod Means
pub mod Door
pub mod Bytes
pub mod Trials
