pub mod Ends
pub mod Merges
pub mod Steps
pub mod Turns
