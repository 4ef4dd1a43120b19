pub mod Which
pub mod Door
pub mod Means
pub mod Trials
