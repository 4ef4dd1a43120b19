pub mod Means
pub mod FileCall
