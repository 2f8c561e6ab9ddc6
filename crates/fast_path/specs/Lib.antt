pub mod Slots
pub mod Grants
pub mod Releases
pub mod Transfers
pub mod Turns
pub mod Rows
pub mod Quiet
