pub mod Walks
pub mod Trees
pub mod Steps
