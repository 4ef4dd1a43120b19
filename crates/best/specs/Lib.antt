pub mod Answers
pub mod steps
