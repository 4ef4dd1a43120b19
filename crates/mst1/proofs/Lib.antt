pub mod Steps
pub mod Cut
pub mod Answers
pub mod Growth
