pub mod Gathering
pub mod Placing
pub mod Numbers
pub mod Signs
pub mod Ends
