pub mod Causes
pub mod Paths
pub mod Result
