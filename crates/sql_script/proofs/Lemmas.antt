-- The lemmas that proofs of several functions share.
pub mod Hearing
pub mod Words
