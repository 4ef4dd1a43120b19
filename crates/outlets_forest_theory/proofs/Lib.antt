pub mod Ranked
pub mod Forest
pub mod Inside
pub mod Trials
