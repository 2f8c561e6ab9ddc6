-- The lemmas that proofs of several functions share.
pub mod Bits
pub mod Words
pub mod Flags
pub mod States
pub mod Waits
pub mod SharersInPlace
pub mod Slots
