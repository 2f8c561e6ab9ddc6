-- The lemmas that proofs of several functions share.
pub mod Chains
pub mod Index
pub mod LastPlaces
pub mod Links
pub mod Notes
