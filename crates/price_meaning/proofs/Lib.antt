pub mod Breaking
pub mod Standing
pub mod StandingTrials
