pub mod Forest
pub mod Growing
pub mod Districts
pub mod Trials
