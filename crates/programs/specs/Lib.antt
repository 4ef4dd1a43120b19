pub mod Readstp
pub mod Trials
