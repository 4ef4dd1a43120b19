pub mod Steps
pub mod Visiting
pub mod Answers
