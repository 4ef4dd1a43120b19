pub mod Groups
pub mod Steps
pub mod Listed
pub mod Joining
