pub mod Quote
pub mod Breaking
pub mod Trials
