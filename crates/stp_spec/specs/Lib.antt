pub mod Reader
pub mod Import
pub mod Door
pub mod Prices
pub mod Accepted
pub mod Trials
