pub mod Laws
pub mod Trials
pub mod Components
