pub mod Forest
pub mod Trials
