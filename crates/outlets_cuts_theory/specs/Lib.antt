pub mod Cuts
pub mod Trials
