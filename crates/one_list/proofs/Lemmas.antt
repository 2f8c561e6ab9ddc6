-- The lemmas that proofs of several functions share.
pub mod Over
pub mod InList
pub mod Slots
pub mod Steps
pub mod Runs
pub mod SafeLists
pub mod Moments
pub mod Requests
