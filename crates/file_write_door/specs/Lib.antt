pub mod Door
pub mod Bytes
pub mod Trials
pub mod Steps
