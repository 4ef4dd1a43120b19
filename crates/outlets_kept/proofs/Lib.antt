pub mod Kept
pub mod Offers
