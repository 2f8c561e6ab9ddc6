-- The lemmas that proofs of several functions share.
pub mod Classes
pub mod Follow
pub mod Locks
pub mod Words
