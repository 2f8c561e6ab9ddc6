-- When the machine shows a World, and what its looks then show.
pub mod Places
pub mod LwWords
pub mod Changes
pub mod Hands
pub mod Locks
pub mod Kept
pub mod Looks
pub mod SlotLooks
pub mod Runs
pub mod SlotLists
pub mod Lists
pub mod ListWords
