-- A wait: looks at it, and how it ends.
pub mod InPart
pub mod Looks
pub mod Watch
pub mod Cancels
pub mod Patience
