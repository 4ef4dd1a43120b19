mod Trials
mod RepeatTrials
