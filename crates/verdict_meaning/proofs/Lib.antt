pub mod Lines
pub mod Means
