pub mod Paths
pub mod Answers
