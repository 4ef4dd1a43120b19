pub mod Forms
pub mod RoundTrip
pub mod Columns
pub mod Trials
pub mod Steps
