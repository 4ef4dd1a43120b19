pub mod Refused
pub mod Sets
pub mod Paths
mod Looking
