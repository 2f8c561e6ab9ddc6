pub mod Owned
pub mod Levels
pub mod Slots
