pub mod Clash
pub mod Outcome
pub mod Report
pub mod Status
