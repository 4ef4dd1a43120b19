pub mod Lines
pub mod Names
pub mod Extends
pub mod Means
pub mod FileCall
