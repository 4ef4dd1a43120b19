pub mod Laws
pub mod Settling
