pub mod Bits
pub mod Sets
pub mod Laws
pub mod Made
pub mod Merge
pub mod Stores
pub mod Trials
