pub mod Trees
pub mod Causes
pub mod Kept
pub mod Plain
pub mod Doors
pub mod Yard
