pub mod Orders
pub mod Columns
pub mod Steps
pub mod Signs
pub mod Loops
pub mod Stores
pub mod Words
