pub mod Steps
pub mod Redrawn
pub mod Written
pub mod Third
pub mod Answers
