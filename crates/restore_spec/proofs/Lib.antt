pub mod Refusing
pub mod Bytes
pub mod Trials
