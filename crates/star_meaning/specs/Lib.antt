pub mod Demand3
pub mod Only
pub mod Stretch
pub mod Bytes
