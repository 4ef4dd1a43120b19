pub mod Classes
pub mod Loops
pub mod Spans
pub mod Trials
