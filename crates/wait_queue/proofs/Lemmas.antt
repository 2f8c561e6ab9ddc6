-- The lemmas that proofs of several functions share.
pub mod Decide
pub mod Removal
pub mod Blockers
