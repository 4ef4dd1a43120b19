pub mod Growing
pub mod Cut
pub mod Runs
