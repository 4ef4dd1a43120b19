pub mod Tables
pub mod Loads
pub mod Trials
pub mod Steps
