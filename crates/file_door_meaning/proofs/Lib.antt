pub mod Pieces
pub mod Lines
pub mod Taken
pub mod Left
pub mod Checked
pub mod Bytes
