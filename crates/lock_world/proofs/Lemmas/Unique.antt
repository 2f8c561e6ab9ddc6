-- An event leads to one World.
pub mod Seats
pub mod Partitions
pub mod Waits
pub mod Runs
