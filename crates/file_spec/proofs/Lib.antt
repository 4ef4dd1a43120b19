pub mod Trials
pub mod TableTrials
pub mod WriterTrials
