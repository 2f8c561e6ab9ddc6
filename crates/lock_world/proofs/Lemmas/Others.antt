-- What an event leaves of those who do not make it.
pub mod Hands
pub mod Seats
pub mod Partitions
pub mod Waits
pub mod Sharing
pub mod Slots
pub mod Counters
pub mod Lists
pub mod Events
pub mod WaitWords
