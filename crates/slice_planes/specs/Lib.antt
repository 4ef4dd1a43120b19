pub mod Planes
pub mod Trials
pub mod Steps
