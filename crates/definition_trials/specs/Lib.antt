pub mod ColumnTrials
pub mod PlainTrials
pub mod YardTrials
pub mod DigTrials
