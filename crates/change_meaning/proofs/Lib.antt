pub mod Bytes
pub mod Carrying
pub mod Packing
pub mod Trials
