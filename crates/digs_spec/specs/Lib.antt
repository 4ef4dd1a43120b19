pub mod DigList
pub mod Door
pub mod Reading
pub mod Meaning
pub mod Trials
pub mod Bytes
pub mod TextBytes
