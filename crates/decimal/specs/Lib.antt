pub mod Decimal
pub mod Puts
pub mod Reading
pub mod Trials
