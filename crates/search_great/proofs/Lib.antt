pub mod Steps
pub mod Signs
pub mod Loops
pub mod Words
