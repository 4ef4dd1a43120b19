pub mod Picks
pub mod Told
