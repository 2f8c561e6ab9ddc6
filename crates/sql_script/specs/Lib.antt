pub mod Asked
pub mod Awaited
pub mod Kept
pub mod Known
pub mod Lines
pub mod Steps
pub mod Turns
pub mod Words
