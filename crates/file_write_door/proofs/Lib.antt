pub mod Checked
pub mod Bytes
pub mod Told
pub mod Trials
