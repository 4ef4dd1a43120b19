pub mod Quote
pub mod Lacking
pub mod Breaking
pub mod Trials
