pub mod Pairs
pub mod Trials
