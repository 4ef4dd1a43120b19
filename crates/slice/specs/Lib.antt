pub mod Slices
pub mod Trials
