mod ColumnTrials
mod PlainTrials
mod YardTrials
mod DigTrials
