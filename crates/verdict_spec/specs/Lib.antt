pub mod Trials
pub mod VerdictText
