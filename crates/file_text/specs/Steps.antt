pub mod Spans
pub mod Collected
