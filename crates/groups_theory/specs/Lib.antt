pub mod Groups
pub mod Means
