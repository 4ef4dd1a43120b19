pub mod Extremes
pub mod Signs
pub mod Loops
pub mod Preferred
pub mod Words
