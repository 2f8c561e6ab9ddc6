pub mod Mode
pub mod Conflict
pub mod ModeSet
pub mod Tag
pub mod Refusal
pub mod TagOrder
pub mod TagText
pub mod Sessions
