pub mod Ends
pub mod Answers
