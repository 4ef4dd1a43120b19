pub mod TableText
pub mod Bytes
