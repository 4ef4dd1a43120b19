pub mod Matrix
pub mod Trials
