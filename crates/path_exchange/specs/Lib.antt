pub mod Turned
pub mod Trials
