pub mod Managers
pub mod Shown
pub mod Waits
