pub mod Forests
pub mod Makes
pub mod Trees
