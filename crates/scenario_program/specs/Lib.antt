pub mod Failures
pub mod Runs
pub mod Tasks
pub mod Typed
