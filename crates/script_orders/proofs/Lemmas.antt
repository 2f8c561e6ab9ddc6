-- The lemmas that proofs of several functions share.
pub mod Merges
pub mod Next
pub mod Steps
pub mod ScriptLines
pub mod Turns
