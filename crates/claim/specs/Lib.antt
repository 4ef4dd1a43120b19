pub mod Claims
pub mod Steps
