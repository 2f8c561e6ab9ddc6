-- Each kind of event keeps partitions, waits and numbers safe.
pub mod Beside
pub mod Seats
pub mod Partitions
pub mod Waits
pub mod Sharing
