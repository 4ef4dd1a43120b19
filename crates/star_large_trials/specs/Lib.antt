pub mod WorkTrials
pub mod RepeatTrials
pub mod MatrixTrials
