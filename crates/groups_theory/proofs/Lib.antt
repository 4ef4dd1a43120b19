pub mod Rings
pub mod Held
pub mod Means
