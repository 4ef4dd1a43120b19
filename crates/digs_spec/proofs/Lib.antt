pub mod Splitting
pub mod Rows
pub mod Sizes
pub mod Meaning
pub mod Trials
pub mod Bytes
pub mod TextBytes
