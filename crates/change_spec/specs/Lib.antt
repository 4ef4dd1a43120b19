pub mod Tables
pub mod Packing
pub mod Changes
pub mod Carrying
pub mod Door
pub mod Meaning
pub mod Trials
