pub mod Checks
pub mod Trials
pub mod Steps
