pub mod Columns
pub mod Laws
pub mod Loads
pub mod Trials
