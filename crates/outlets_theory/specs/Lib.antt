pub mod Degree
pub mod Promise
pub mod Trials
