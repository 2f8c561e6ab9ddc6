-- The lemmas that proofs of several functions share.
pub mod Actions
pub mod Answered
pub mod Numbers
pub mod Failing
pub mod Hearing
pub mod InTime
pub mod InTurn
pub mod Leaving
pub mod Lent
pub mod Likewise
pub mod Lines
pub mod Noted
pub mod Playing
pub mod Polling
pub mod Printing
pub mod Waits
