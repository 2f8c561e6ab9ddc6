-- The lemmas that proofs of several functions share.
pub mod Masks
pub mod Conflicts
pub mod Equality
