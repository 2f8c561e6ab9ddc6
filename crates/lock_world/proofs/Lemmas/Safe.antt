-- Each kind of event leads from a safe World to a safe one.
pub mod Seats
pub mod Partitions
pub mod Waits
pub mod Sharing
pub mod Transfers
pub mod Slots
