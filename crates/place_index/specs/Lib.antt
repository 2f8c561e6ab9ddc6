pub mod Notes
pub mod Chains
