-- What each kind of step makes of the account of the session that makes it.
pub mod Parts
pub mod Partitions
pub mod Waits
pub mod Slots
pub mod Lists
pub mod Lawful
pub mod Marks
pub mod Facts
