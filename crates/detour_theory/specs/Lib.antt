pub mod Detours
pub mod Promise
