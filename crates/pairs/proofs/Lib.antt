pub mod Trials
pub mod Laws
