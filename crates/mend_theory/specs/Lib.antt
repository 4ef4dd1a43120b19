pub mod Mending
pub mod Promise
pub mod Trials
