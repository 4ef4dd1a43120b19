pub mod Laws
pub mod Widened
