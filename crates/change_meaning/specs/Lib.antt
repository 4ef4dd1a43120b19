pub mod Bytes
pub mod Packing
pub mod Trials
