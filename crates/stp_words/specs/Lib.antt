pub mod Bytes
pub mod Text
pub mod Names
pub mod Numbers
pub mod Answers
pub mod Spans
pub mod Trials
