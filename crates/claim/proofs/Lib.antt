pub mod Laws
pub mod Weights
pub mod Words
