pub mod Column
pub mod Integers
pub mod Rows
