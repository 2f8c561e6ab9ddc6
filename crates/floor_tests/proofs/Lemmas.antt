-- The lemmas that proofs of several functions share.
pub mod Leaving
pub mod Putting
