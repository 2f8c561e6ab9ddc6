pub mod Locks
pub mod Setting
pub mod Clearing
pub mod Transferring
pub mod Databases
pub mod Reading
