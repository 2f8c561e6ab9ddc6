-- The machine follows each kind of event: it shows the World that the event leads to.
pub mod Skipped
pub mod Beyond
pub mod Seats
pub mod Partitions
pub mod Waits
pub mod Slots
pub mod SlotSteps
pub mod Sharing
pub mod Counters
pub mod Transfers
pub mod Lists
pub mod ListWords
